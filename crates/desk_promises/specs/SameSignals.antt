-- Equal bands at a port's coder and at its station stay equal over one octet, whose upper six bits come as they were sent.
-- Assumes nothing.
use Rattle.std.specs.Prelude.{◌≡◌, [], ◌∷◌, ℕ, ℤ}
use Rattle.g722.specs.Steps.{heard_after}
use Rattle.g722.specs.declared.Coder.{Coder}
use Rattle.g722.specs.declared.Decoder.{Decoder}
use Rattle.facts.specs.Upper.{upper_six}
use Rattle.conference.specs.Ports.{octet_to, coder_to}
use Rattle.promises.proofs.SameBands.{SameBands, same_words}

-- THE THEOREM: one octet, by the two sub-band coders
pub same_signals : (c : Coder) (s : ℤ × ℤ) (d : Decoder) (o : ℕ) → SameBands c d → upper_six (octet_to c s) ≡ upper_six o
    → SameBands (coder_to c s) (heard_after d (o ∷ []))
unfolding octet_to coder_to
same_signals c s d o b e = same_words c s.0 s.1 c.past d o b e
