-- Coding: one pair of samples, a run of them, and a call with its refusals.
-- Assumes nothing.
use Rattle.std.specs.Prelude.{Bool, cond, ◌||◌, not, List, [], ◌∷◌, ◌++◌, ℕ, zero, suc, ◌*◌, ltb, eqb, ℤ, length, drop}
use Rattle.laws.specs.Outcome.{Outcome}
use Rattle.g722.specs.Arithmetic.{limit, overloads}
use Rattle.g722.specs.Quantise.{subtra, quantl, quanth}
use Rattle.g722.specs.Band.{predic, low_after, high_after}
use Rattle.g722.specs.Mirror.{lowt, hight}
use Rattle.g722.specs.Octet.{octet}
use Rattle.g722.specs.Records.{in_range, good_coder}
use Rattle.g722.specs.declared.Band.{Band}
use Rattle.g722.specs.declared.Coder.{Coder}
use Rattle.g722.specs.Answers.{Coded}

-- the 24 samples that a pair's filter sees, x before y
unfoldable pub window : Coder → ℤ → ℤ → List ℤ
window c x y = c.past ++ (x ∷ y ∷ [])

-- the two sub-band coders: the word of a band's signal
abbrev pub low_word_of : Band → ℤ → ℕ
low_word_of s x = quantl (subtra x (predic s)) s.factors.scale

abbrev pub high_word_of : Band → ℤ → ℕ
high_word_of s x = quanth (subtra x (predic s)) s.factors.scale

-- IL and IH of a pair
unfoldable pub il_of : Coder → ℤ → ℤ → ℕ
il_of c x y = low_word_of c.low (limit (lowt (window c x y)))

unfoldable pub ih_of : Coder → ℤ → ℤ → ℕ
ih_of c x y = high_word_of c.high (limit (hight (window c x y)))

-- one pair: its octet, and the record after it
unfoldable pub octet_of : Coder → ℤ → ℤ → ℕ
octet_of c x y = octet (ih_of c x y) (il_of c x y)

unfoldable pub coder_step : Coder → ℤ → ℤ → Coder
coder_step c x y =
    record { low = low_after c.low (il_of c x y); high = high_after c.high (ih_of c x y); past = drop 2 (window c x y) }

-- a run of pairs
unfoldable pub octets_of : Coder → List ℤ → List ℕ
octets_of c [] = []
octets_of c (x ∷ []) = []
octets_of c (x ∷ y ∷ rest) = octet_of c x y ∷ octets_of (coder_step c x y) rest

unfoldable pub coder_after : Coder → List ℤ → Coder
coder_after c [] = c
coder_after c (x ∷ []) = c
coder_after c (x ∷ y ∷ rest) = coder_after (coder_step c x y) rest

-- XL and XH of a run in full, from the 22 samples before it: XL before XH, pair after pair
unfoldable pub split_in_full : List ℤ → List ℤ → List ℤ
split_in_full past [] = []
split_in_full past (x ∷ []) = []
split_in_full past (x ∷ y ∷ rest) =
    let w = past ++ (x ∷ y ∷ []) in
    lowt w ∷ hight w ∷ split_in_full (drop 2 w) rest

-- the index of the first sample out of range, or the length where there is none
unfoldable pub first_bad : List ℤ → ℕ
first_bad [] = zero
first_bad (x ∷ rest) = cond (in_range x) (suc (first_bad rest)) zero

-- n octets with 2n samples, n at most 8000
unfoldable pub misfit : ℕ → ℕ → Bool
misfit samples octets = ltb 8000 octets || not (eqb samples (2 * octets))

-- a refused call gives back the record and the octets as they came, and has no count
unfoldable pub not_coded : ℕ → ℕ → Coder → List ℕ → Outcome Coded (List ℕ)
not_coded number index c octets = record { answer = record { number = number; index = index; limited = 0; next = c }; left = octets }

-- an accepted one counts the XL and XH that were limited
unfoldable pub coded : Coder → List ℤ → Outcome Coded (List ℕ)
coded c samples =
    record {
      answer = record { number = 0; index = 0; limited = overloads (split_in_full c.past samples); next = coder_after c samples };
      left = octets_of c samples;
    }

-- a coding call: 3, then 2, then 4 with the index of the first bad sample
unfoldable pub code_call : Coder → List ℤ → List ℕ → Outcome Coded (List ℕ)
code_call c samples octets =
    cond (misfit (length samples) (length octets)) (not_coded 3 0 c octets)
    (cond (not (good_coder c)) (not_coded 2 0 c octets)
    (cond (ltb (first_bad samples) (length samples)) (not_coded 4 (first_bad samples) c octets)
    (coded c samples)))
