-- The mirror filters over rows of numbers, one for each phase of the table: twelve taps at every place of a row.
-- Assumes nothing.
use Rattle.std.specs.Prelude.{◌≡◌, refl, ℕ, zero, suc, ◌+◌, ◌*◌, ◌-◌, ◌<◌, ℤ, pos, ◌+ℤ◌, ◌-ℤ◌, ◌*ℤ◌, length, get_or}
use mathlib.Core.List.{List, [], ◌∷◌}
use Rattle.std.proofs.Common.{arith}
use Rattle.laws.specs.Outcome.{Outcome}
use Rattle.g722.specs.Arithmetic.{shr, limit, overloads}
use Rattle.g722.specs.Mirror.{sum, coefficient}

-- number k of a list, and 0 behind its end
abbrev pub nth : List ℤ → ℕ → ℤ
nth x k = get_or x k (pos 0)

-- a row has 171 places; the first n of this one hold f 0, f 1, ..
pub record Holds (f : ℕ → ℤ) (row : List ℤ) (n : ℕ) : Type 0 where
  pub long : length row ≡ 171
  pub is : (k : ℕ) → k < n → nth row k ≡ f k

-- f i, f (i + 1), .., n of them
unfoldable pub from : (ℕ → ℤ) → ℕ → ℕ → List ℤ
from f i zero = []
from f i (suc n) = f i ∷ from f (suc i) n

-- f i, g i, f (i + 1), g (i + 1), .., n pairs
unfoldable pub in_turn : (ℕ → ℤ) → (ℕ → ℤ) → ℕ → ℕ → List ℤ
in_turn f g i zero = []
in_turn f g i (suc n) = f i ∷ g i ∷ in_turn f g (suc i) n

-- twelve taps of a phase at place i of a row: H(2j + phase) meets the number j places before place i + 11
unfoldable pub taps_at : ℕ → (ℕ → ℤ) → ℕ → ℤ
taps_at phase x i = sum (λ (j : ℕ). coefficient (2 * j + phase) *ℤ x (i + 11 - j)) 12

-- a sum of the same numbers
pub sum_same : (f g : ℕ → ℤ) (n : ℕ) → ((i : ℕ) → i < n → f i ≡ g i) → sum f n ≡ sum g n
unfolding sum
sum_same f g zero e = refl
sum_same f g (suc n) e = λ j. sum_same f g n (λ i h. e i (omega arith)) j +ℤ e n (omega arith) j

-- XL and XH in full: phase 0 meets the later samples of the pairs, phase 1 the earlier ones
unfoldable pub low_at : List ℤ → List ℤ → ℕ → ℤ
low_at even odd i = shr (taps_at 0 (nth odd) i +ℤ taps_at 1 (nth even) i) 13

unfoldable pub high_at : List ℤ → List ℤ → ℕ → ℤ
high_at even odd i = shr (taps_at 0 (nth odd) i -ℤ taps_at 1 (nth even) i) 13

-- XOUT1 and XOUT2 in full
unfoldable pub first_at : List ℤ → ℕ → ℤ
first_at xd i = shr (taps_at 0 (nth xd) i) 12

unfoldable pub second_at : List ℤ → ℕ → ℤ
second_at xs i = shr (taps_at 1 (nth xs) i) 12

-- both filters at n places: how many values were limited, and all values, limited
abbrev pub rows_split : List ℤ → List ℤ → ℕ → Outcome ℕ (List ℤ × List ℤ)
rows_split even odd n =
    record {
      answer = overloads (in_turn (low_at even odd) (high_at even odd) 0 n);
      left = (from (λ (k : ℕ). limit (low_at even odd k)) 0 n, from (λ (k : ℕ). limit (high_at even odd k)) 0 n);
    }

abbrev pub rows_joined : List ℤ → List ℤ → ℕ → Outcome ℕ (List ℤ)
rows_joined xd xs n =
    record {
      answer = overloads (in_turn (first_at xd) (second_at xs) 0 n);
      left = in_turn (λ (k : ℕ). limit (first_at xd k)) (λ (k : ℕ). limit (second_at xs k)) 0 n;
    }
