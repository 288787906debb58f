-- Decoding in two steps: octets to low and high signals, which moves both bands, and signals to samples, which moves the past pairs.
-- Assumes nothing.
use Rattle.std.specs.Prelude.{Bool, cond, not, ◌||◌, List, [], ◌∷◌, ◌++◌, map, ℕ, ◌+◌, min, ltb, eqb, ℤ, length, drop}
use Rattle.laws.specs.Outcome.{Outcome}
use Rattle.g722.specs.Arithmetic.{limit, overloads}
use Rattle.g722.specs.Quantise.{in_force}
use Rattle.g722.specs.Band.{low_after, high_after}
use Rattle.g722.specs.Mirror.{accumc, accumd}
use Rattle.g722.specs.Octet.{high_word, low_word}
use Rattle.g722.specs.Records.{good_decoder}
use Rattle.g722.specs.Coding.{first_bad, misfit}
use Rattle.g722.specs.Decoding.{yl_of, yh_of, rl_of, rh_of}
use Rattle.g722.specs.declared.Band.{Band}
use Rattle.g722.specs.declared.Pairs.{Pairs}
use Rattle.g722.specs.declared.Decoder.{Decoder}
use Rattle.g722.specs.Answers.{Decoded}

-- ---- the first step: hearing

-- a band over a run, by the signal that it gives of one octet and the band after that: its signals, and the band after all
unfoldable pub signals_of : {A : Type 0} → (Band → A → ℤ) → (Band → A → Band) → Band → List A → List ℤ
signals_of signal next s [] = []
signals_of signal next s (o ∷ rest) = signal s o ∷ signals_of signal next (next s o) rest

unfoldable pub band_after : {A : Type 0} → (Band → A → Band) → Band → List A → Band
band_after next s [] = s
band_after next s (o ∷ rest) = band_after next (next s o) rest

-- each band goes on by its own word, whatever the mode
abbrev pub low_next : Band → ℕ → Band
low_next s o = low_after s (low_word o)

abbrev pub high_next : Band → ℕ → Band
high_next s o = high_after s (high_word o)

-- YL and YH of a run of octets; RL and RH; and the record after it: the past pairs stay
unfoldable pub yls_of : ℕ → Band → List ℕ → List ℤ
yls_of mode s octets = signals_of (yl_of mode) low_next s octets

unfoldable pub yhs_of : Band → List ℕ → List ℤ
yhs_of s octets = signals_of yh_of high_next s octets

unfoldable pub rls_of : ℕ → Band → List ℕ → List ℤ
rls_of mode s octets = signals_of (rl_of mode) low_next s octets

unfoldable pub rhs_of : Band → List ℕ → List ℤ
rhs_of s octets = signals_of rh_of high_next s octets

unfoldable pub heard_after : Decoder → List ℕ → Decoder
heard_after d octets =
    record { low = band_after low_next d.low octets; high = band_after high_next d.high octets; past = d.past }

-- n octets with n signals of each band, n at most 8000
unfoldable pub unpaired : ℕ → ℕ → ℕ → Bool
unpaired octets low high = ltb 8000 octets || not (eqb low octets) || not (eqb high octets)

-- a refused call gives back the record and both signals as they came, and has no count
unfoldable pub not_heard : ℕ → Decoder → List ℤ → List ℤ → Outcome Decoded (List ℤ × List ℤ)
not_heard number d low high = record { answer = record { number = number; index = 0; limited = 0; next = d }; left = (low, high) }

-- an accepted one counts the signals that were limited, low and high together
unfoldable pub heard : ℕ → Decoder → List ℕ → Outcome Decoded (List ℤ × List ℤ)
heard mode d octets =
    let limited = overloads (yls_of mode d.low octets) + overloads (yhs_of d.high octets) in
    record {
      answer = record { number = 0; index = 0; limited = limited; next = heard_after d octets };
      left = (rls_of mode d.low octets, rhs_of d.high octets);
    }

-- a call of the first step with a told mode: 1, then 3, then 2
unfoldable pub hear_call : Decoder → ℕ → List ℕ → List ℤ → List ℤ → Outcome Decoded (List ℤ × List ℤ)
hear_call d told octets low high =
    cond (ltb 3 told) (not_heard 1 d low high)
    (cond (unpaired (length octets) (length low) (length high)) (not_heard 3 d low high)
    (cond (not (good_decoder d)) (not_heard 2 d low high)
    (heard (in_force told) d octets)))

-- ---- the second step: joining

-- the past pairs after one more: the oldest goes
unfoldable pub pairs_next : Pairs → ℤ → ℤ → Pairs
pairs_next p x y = record { rl = drop 1 (p.rl ++ (x ∷ [])); rh = drop 1 (p.rh ++ (y ∷ [])) }

-- the samples of a run of pairs in full, and limited, and the past pairs after it
unfoldable pub joined_in_full : Pairs → List ℤ → List ℤ → List ℤ
joined_in_full p [] high = []
joined_in_full p (x ∷ low) [] = []
joined_in_full p (x ∷ low) (y ∷ high) =
    accumc (p.rl ++ (x ∷ [])) (p.rh ++ (y ∷ []))
    ∷ accumd (p.rl ++ (x ∷ [])) (p.rh ++ (y ∷ []))
    ∷ joined_in_full (pairs_next p x y) low high

unfoldable pub joined_of : Pairs → List ℤ → List ℤ → List ℤ
joined_of p low high = map limit (joined_in_full p low high)

unfoldable pub pairs_after : Pairs → List ℤ → List ℤ → Pairs
pairs_after p [] high = p
pairs_after p (x ∷ low) [] = p
pairs_after p (x ∷ low) (y ∷ high) = pairs_after (pairs_next p x y) low high

-- the record after it: both bands stay
unfoldable pub joined_after : Decoder → List ℤ → List ℤ → Decoder
joined_after d low high = record { low = d.low; high = d.high; past = pairs_after d.past low high }

-- the index of the first pair of which one is out of range, or the length where there is none
unfoldable pub first_bad_pair : List ℤ → List ℤ → ℕ
first_bad_pair low high = min (first_bad low) (first_bad high)

-- a refused call gives back the record and the samples as they came, and has no count
unfoldable pub not_joined : ℕ → ℕ → Decoder → List ℤ → Outcome Decoded (List ℤ)
not_joined number index d samples = record { answer = record { number = number; index = index; limited = 0; next = d }; left = samples }

-- an accepted one counts the samples that were limited
unfoldable pub joined : Decoder → List ℤ → List ℤ → Outcome Decoded (List ℤ)
joined d low high =
    record {
      answer = record { number = 0; index = 0; limited = overloads (joined_in_full d.past low high); next = joined_after d low high };
      left = joined_of d.past low high;
    }

-- a call of the second step, with as many high signals as low ones: 3, then 2, then 4 with the index of the first bad pair
unfoldable pub join_call : Decoder → List ℤ → List ℤ → List ℤ → Outcome Decoded (List ℤ)
join_call d low high samples =
    cond (misfit (length samples) (length low) || not (eqb (length high) (length low))) (not_joined 3 0 d samples)
    (cond (not (good_decoder d)) (not_joined 2 0 d samples)
    (cond (ltb (first_bad_pair low high) (length low)) (not_joined 4 (first_bad_pair low high) d samples)
    (joined d low high)))
