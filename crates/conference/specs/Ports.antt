-- One port, and all of them: decoded by the first step of decoding, coded by the two sub-band coders, one octet each way.
-- Assumes nothing.
use mathlib.Core.List.{List, [], ◌∷◌, zip, zip_with}
use Rattle.std.specs.Prelude.{ℕ, ℤ}
use Rattle.g722.specs.Quantise.{in_force}
use Rattle.g722.specs.Band.{low_after, high_after}
use Rattle.g722.specs.Octet.{octet}
use Rattle.g722.specs.Coding.{low_word_of, high_word_of}
use Rattle.g722.specs.Decoding.{rl_of, rh_of}
use Rattle.g722.specs.Steps.{heard_after}
use Rattle.g722.specs.declared.Coder.{Coder}
use Rattle.g722.specs.declared.Decoder.{Decoder}

-- ---- one port

-- RL and RH of a port's octet, by the mode that it was told, and its decoder after the octet: the past pairs stay
unfoldable pub rl_from : Decoder → ℕ × ℕ → ℤ
rl_from d (told, o) = rl_of (in_force told) d.low o

unfoldable pub rh_from : Decoder → ℕ → ℤ
rh_from d o = rh_of d.high o

unfoldable pub decoder_from : Decoder → ℕ → Decoder
decoder_from d o = heard_after d (o ∷ [])

-- the octet that a port is sent for a low and a high signal, and its coder after that: the past samples stay
unfoldable pub octet_to : Coder → ℤ × ℤ → ℕ
octet_to c (xl, xh) = octet (high_word_of c.high xh) (low_word_of c.low xl)

unfoldable pub coder_to : Coder → ℤ × ℤ → Coder
coder_to c (xl, xh) =
    record {
      low = low_after c.low (low_word_of c.low xl);
      high = high_after c.high (high_word_of c.high xh);
      past = c.past;
    }

-- ---- all ports

-- RL and RH of every port
unfoldable pub rls_from : List Decoder → List ℕ → List ℕ → List ℤ
rls_from decoders modes octets = zip_with rl_from decoders (zip modes octets)

unfoldable pub rhs_from : List Decoder → List ℕ → List ℤ
rhs_from decoders octets = zip_with rh_from decoders octets

-- a table of records after each port was given something: a port that is given nothing is not in use, and stays
unfoldable pub each_port : {A B : Type 0} → (A → B → A) → List A → List B → List A
each_port next [] given = []
each_port next (a ∷ rest) [] = a ∷ rest
each_port next (a ∷ rest) (b ∷ given) = next a b ∷ each_port next rest given
