-- The outputs of the inverse quantisers by the word itself, with their signs and eight times, and the weights of the log factors: what a
-- loop over code words reads. The columns of Table 14 and the rules of the words give each.
-- Assumes nothing.
use Rattle.std.specs.Prelude.{Bool, cond, List, [], ◌∷◌, ℕ, zero, suc, ◌*◌, ◌/◌, eqb, ℤ, pos, get_or}
use Rattle.g722.specs.Arithmetic.{neg}
use Rattle.g722.specs.Tables.{qq6, qq5, qq4, qq2, wl, wh}
use Rattle.g722.specs.Words.{from_six, from_five, from_four, from_two}
use Rattle.g722.specs.declared.Interval.{Interval}

-- f at the n numbers from i on
abbrev pub listed : {A : Type 0} → (ℕ → A) → ℕ → ℕ → List A
listed f i zero = []
listed f i (suc n) = f i ∷ listed f (suc i) n

-- ---- the outputs

-- an output with its sign, WD2
unfoldable pub signed_of : List ℕ → Interval → ℤ
signed_of qq v = cond v.negative (neg (get_or qq v.number 0 * 8)) (pos (get_or qq v.number 0 * 8))

-- the output of a word of six bits. The high band's two bits stand above two that do not count, and in the low band the mode says how many
-- bits count, as in INVQBL
unfoldable pub output_at : Bool → ℕ → ℕ → ℤ
output_at high mode w =
    cond high (signed_of qq2 (from_two (w / 4)))
    (cond (eqb mode 1) (signed_of qq6 (from_six w))
    (cond (eqb mode 2) (signed_of qq5 (from_five (w / 2)))
    (signed_of qq4 (from_four (w / 4)))))

-- those of the words 0 to 63
unfoldable pub outputs_of : Bool → ℕ → List ℤ
outputs_of high mode = listed (output_at high mode) 0 64

-- ---- the weights

-- the weight of the upper four bits of a word; in the high band these are its two bits
unfoldable pub weight_at : Bool → ℕ → ℤ
weight_at high k = cond high (get_or wh (from_two k).number (pos 0)) (get_or wl (from_four k).number (pos 0))

-- those of 0 to 15
unfoldable pub weights_of : Bool → List ℤ
weights_of high = listed (weight_at high) 0 16
