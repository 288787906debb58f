-- Demand 3 of the running code counts from the last reset: of whatever the contracts of `coder::reset`, `coder::code`, `decoder::reset` and
-- `decoder::decode` allow to be answered and left, in any order of calls and resets that begins with a reset.
-- Assumes nothing.
use Rattle.std.specs.Prelude.{◌≡◌, List, ◌∷◌, map, ℕ, ◌*◌, length, take}
use Rattle.g722.specs.Records.{reset_coder, reset_decoder}
use Rattle.g722.specs.Coding.{coder_after}
use Rattle.g722.specs.declared.Coder.{Coder}
use Rattle.g722.specs.declared.Decoder.{Decoder}
use Rattle.facts.specs.Told.{decoder_run}
use Rattle.facts.specs.Upper.{upper_six}
use Rattle.promises.proofs.StepRuns.{received}
use Rattle.promises.proofs.SameBands.{SameBands}
use Rattle.promises.proofs.Ends.{AsSent}
use Rattle.promises.proofs.Turns.{Turn, reset, since}
use Rattle.promises.proofs.Running.{Reset_coder, Reset_decoder, Coding, Decoding}
use Rattle.promises.proofs.RunningLaws.{did_reset_coder, did_reset_decoder, codings, decodings, sent, spoken, came}
use Rattle.promises.proofs.RunningLaws.{running_ends_equal, running_behind, running_records_equal}
use Rattle.promises.proofs.MadeTurns.{MadeTurns, FromReset, made_since}

-- THE THEOREMS, whatever the records before the first reset, and whatever was lost before the last
module _ {c c' : Coder} {d d' : Decoder} (cs : List (Turn Coding)) (ds : List (Turn Decoding))
    (m : MadeTurns codings Reset_coder c (reset ∷ cs) c') (w : MadeTurns decodings Reset_decoder d (reset ∷ ds) d') where
  abbrev coded : FromReset codings Reset_coder (since cs) c'
  coded = made_since codings Reset_coder m

  abbrev decoded : FromReset decodings Reset_decoder (since ds) d'
  decoded = made_since decodings Reset_decoder w

  -- after the n-th octet since the last reset of both, for every n up to which they came as they were sent, inside a call too
  pub running_equal_since : (n : ℕ) → AsSent n (sent (since cs)) (came (since ds))
      → SameBands (coder_after reset_coder (take (2 * n) (spoken (since cs)))) (decoder_run reset_decoder (take n (came (since ds))))
  running_equal_since n e =
      rw (did_reset_coder _ coded.was_reset, did_reset_decoder _ decoded.was_reset) at
      (running_ends_equal _ _ coded.was_reset decoded.was_reset (since cs) (since ds) coded.made decoded.made n e)

  -- the decoder's last record, while it is behind what was sent since then
  pub running_behind_since : AsSent (length (came (since ds))) (sent (since cs)) (came (since ds))
      → SameBands (coder_after reset_coder (take (2 * length (came (since ds))) (spoken (since cs)))) d'
  running_behind_since e =
      rw (did_reset_coder _ coded.was_reset, decoded.last) at
      (running_behind _ _ coded.was_reset decoded.was_reset (since cs) (since ds) coded.made decoded.made e)

  -- the last records of both, where all that was sent since then has come
  pub running_records_since : map upper_six (sent (since cs)) ≡ map upper_six (received (came (since ds))) → SameBands c' d'
  running_records_since e =
      rw (coded.last, decoded.last) at
      (running_records_equal _ _ coded.was_reset decoded.was_reset (since cs) (since ds) coded.made decoded.made e)
