-- Decoding: one octet, a run of them, and a call with its refusals.
-- Assumes nothing.
use Rattle.std.specs.Prelude.{cond, not, List, [], ◌∷◌, ◌++◌, map, ℕ, ltb, ℤ, length, drop}
use Rattle.laws.specs.Outcome.{Outcome}
use Rattle.g722.specs.Arithmetic.{limit, overloads}
use Rattle.g722.specs.Quantise.{in_force, invqbl, invqah}
use Rattle.g722.specs.Band.{recons, low_after, high_after}
use Rattle.g722.specs.Mirror.{accumc, accumd}
use Rattle.g722.specs.Octet.{high_word, low_word}
use Rattle.g722.specs.Records.{good_decoder}
use Rattle.g722.specs.Coding.{misfit}
use Rattle.g722.specs.declared.Band.{Band}
use Rattle.g722.specs.declared.Decoder.{Decoder}
use Rattle.g722.specs.Answers.{Decoded}

-- YL and YH: the heard signals in full. The mode in force chooses the low one, and not what the loop keeps
unfoldable pub yl_of : ℕ → Band → ℕ → ℤ
yl_of mode s o = recons s (invqbl mode (low_word o) s.factors.scale)

unfoldable pub yh_of : Band → ℕ → ℤ
yh_of s o = recons s (invqah (high_word o) s.factors.scale)

-- LIMIT: RL and RH, the heard signals
unfoldable pub rl_of : ℕ → Band → ℕ → ℤ
rl_of mode s o = limit (yl_of mode s o)

unfoldable pub rh_of : Band → ℕ → ℤ
rh_of s o = limit (yh_of s o)

-- the twelve of each that an octet's filter sees
unfoldable pub rl_row : ℕ → Decoder → ℕ → List ℤ
rl_row mode d o = d.past.rl ++ (rl_of mode d.low o ∷ [])

unfoldable pub rh_row : Decoder → ℕ → List ℤ
rh_row d o = d.past.rh ++ (rh_of d.high o ∷ [])

-- one octet: its two samples in full, and the record after it
unfoldable pub first_of : ℕ → Decoder → ℕ → ℤ
first_of mode d o = accumc (rl_row mode d o) (rh_row d o)

unfoldable pub second_of : ℕ → Decoder → ℕ → ℤ
second_of mode d o = accumd (rl_row mode d o) (rh_row d o)

unfoldable pub decoder_step : ℕ → Decoder → ℕ → Decoder
decoder_step mode d o =
    record {
      low = low_after d.low (low_word o);
      high = high_after d.high (high_word o);
      past = record { rl = drop 1 (rl_row mode d o); rh = drop 1 (rh_row d o) };
    }

-- a run of octets: its samples in full, and limited
unfoldable pub samples_in_full : ℕ → Decoder → List ℕ → List ℤ
samples_in_full mode d [] = []
samples_in_full mode d (o ∷ rest) = first_of mode d o ∷ second_of mode d o ∷ samples_in_full mode (decoder_step mode d o) rest

unfoldable pub samples_of : ℕ → Decoder → List ℕ → List ℤ
samples_of mode d octets = map limit (samples_in_full mode d octets)

unfoldable pub decoder_after : ℕ → Decoder → List ℕ → Decoder
decoder_after mode d [] = d
decoder_after mode d (o ∷ rest) = decoder_after mode (decoder_step mode d o) rest

-- a refused call gives back the record and the samples as they came, and has no count
unfoldable pub not_decoded : ℕ → Decoder → List ℤ → Outcome Decoded (List ℤ)
not_decoded number d samples = record { answer = record { number = number; index = 0; limited = 0; next = d }; left = samples }

-- an accepted one counts the samples that were limited
unfoldable pub decoded : ℕ → Decoder → List ℕ → Outcome Decoded (List ℤ)
decoded mode d octets =
    record {
      answer = record { number = 0; index = 0; limited = overloads (samples_in_full mode d octets); next = decoder_after mode d octets };
      left = samples_of mode d octets;
    }

-- a decoding call with a told mode: 1, then 3, then 2
unfoldable pub decode_call : Decoder → ℕ → List ℕ → List ℤ → Outcome Decoded (List ℤ)
decode_call d told octets samples =
    cond (ltb 3 told) (not_decoded 1 d samples)
    (cond (misfit (length samples) (length octets)) (not_decoded 3 d samples)
    (cond (not (good_decoder d)) (not_decoded 2 d samples)
    (decoded (in_force told) d octets)))
