-- What is proved of the outputs and the weights by the word: where they stand in their lists, what the inverse quantisers multiply by, and
-- how large an output is.
-- Assumes nothing.
use Rattle.std.specs.Prelude.{◌≡◌, refl, Bool, true, false, cond, List, ℕ, zero, suc, ◌+◌, ◌*◌, ◌/◌, ◌≤◌, ◌<◌, T, eqb, leb, ℤ, pos, nat_abs, get_or}
use Rattle.std.proofs.Common.{ap, ◌∙◌, zero-add, le_of_suc-le-suc, not-suc-le-zero, arith}
use Rattle.laws.specs.Every.{each}
use Rattle.laws.specs.Size.{abs_neg}
use Rattle.g722.specs.Arithmetic.{neg, mul}
use Rattle.g722.specs.Tables.{qq6, qq5, qq4, qq2}
use Rattle.g722.specs.Words.{from_six, from_five, from_four, from_two}
use Rattle.g722.specs.Quantise.{inverse, invqah, invqbl}
use Rattle.g722.specs.declared.Interval.{Interval}
use Rattle.tables.specs.Entries.{entry_small}
use Rattle.at_hand.specs.Signed.{listed, signed_of, output_at, outputs_of, weight_at, weights_of}

module _ {A : Type 0} (f : ℕ → A) where
  from : (d : A) (i n k : ℕ) → k < n → get_or (listed f i n) k d ≡ f (i + k)
  from d i zero k h = absurd (not-suc-le-zero h)
  from d i (suc n) zero h = ap f (omega arith)
  from d i (suc n) (suc k) h = from d (suc i) n k (le_of_suc-le-suc h) ∙ ap f (omega arith)

  listed_at : (d : A) (n k : ℕ) → k < n → get_or (listed f 0 n) k d ≡ f k
  listed_at d n k h = from d 0 n k h ∙ ap f (zero-add k)

pub outputs_at : (high : Bool) (mode w : ℕ) → w < 64 → get_or (outputs_of high mode) w (pos 0) ≡ output_at high mode w
unfolding outputs_of
outputs_at high mode w h = listed_at (output_at high mode) (pos 0) 64 w h

-- they are what the inverse quantisers multiply the scale by
pub invqah_by : (mode w : ℕ) (det : ℤ) → mul det (output_at true mode w) ≡ invqah (w / 4) det
unfolding output_at signed_of invqah inverse
invqah_by mode w det = refl

into : (det : ℤ) (t : Bool) (a b : ℤ) → mul det (cond t a b) ≡ cond t (mul det a) (mul det b)
into det true a b = refl
into det false a b = refl

pub invqbl_by : (mode w : ℕ) (det : ℤ) → mul det (output_at false mode w) ≡ invqbl mode w det
unfolding output_at signed_of invqbl inverse
invqbl_by mode w det =
    into det (eqb mode 1) _ _ ∙ ap (cond (eqb mode 1) (inverse qq6 (from_six w) det)) (into det (eqb mode 2) _ _)

-- no output is above 8 times 3101, nor below as much
signed_size : (t : Bool) (n : ℕ) → nat_abs (cond t (neg n) (pos n)) ≡ n
signed_size true n = abs_neg (pos n)
signed_size false n = refl

signed_small : (qq : List ℕ) → T (each (λ k q. leb q 3101) 0 qq) → (v : Interval) → nat_abs (signed_of qq v) ≤ 24808
unfolding signed_of
signed_small qq t v = omega (arith, signed_size v.negative (get_or qq v.number 0 * 8), entry_small 3101 qq t v.number)

chosen_small : (m : ℕ) (t : Bool) (a b : ℤ) → nat_abs a ≤ m → nat_abs b ≤ m → nat_abs (cond t a b) ≤ m
chosen_small m true a b h k = h
chosen_small m false a b h k = k

pub output_small : (high : Bool) (mode w : ℕ) → nat_abs (output_at high mode w) ≤ 24808
unfolding output_at qq6 qq5 qq4 qq2
output_small high mode w =
    chosen_small 24808 high _ _ (signed_small qq2 tt (from_two (w / 4)))
    (chosen_small 24808 (eqb mode 1) _ _ (signed_small qq6 tt (from_six w))
    (chosen_small 24808 (eqb mode 2) _ _ (signed_small qq5 tt (from_five (w / 2)))
    (signed_small qq4 tt (from_four (w / 4)))))

pub weights_at : (high : Bool) (k : ℕ) → k < 16 → get_or (weights_of high) k (pos 0) ≡ weight_at high k
unfolding weights_of
weights_at high k h = listed_at (weight_at high) (pos 0) 16 k h
