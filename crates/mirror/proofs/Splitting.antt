-- The transmit filter over rows, on plain values: at every place it gives what the definitions give of that pair's window.
-- Assumes nothing.
use mathlib.Core.Path.{◌≡◌, refl, sym, ap, ◌∙◌}
use mathlib.Core.List.{List, [], ◌∷◌, ◌++◌}
use Prim.Native.Nat.{ℕ, zero, suc, ◌+◌, ◌*◌, ◌-◌, ◌/◌, ◌≤◌}
use native.Mathlib.Omega.{arith}
use lib.IntN.{ℤ, pos, ◌+ℤ◌, ◌-ℤ◌, ◌*ℤ◌}
use lib.ListN.{length, drop, length-append, drop_of_length-le}
use Rattle.laws.specs.Turns.{drop_pair}
use Rattle.laws.specs.Outcome.{Does}
use Rattle.g722.specs.Arithmetic.{shr, limit, overloads}
use Rattle.g722.specs.Mirror.{coefficient, xin, accuma, accumb, lowt, hight}
use Rattle.g722.specs.Coding.{split_in_full}
use Rattle.mirror.specs.Rows.{nth, Holds, from, in_turn, taps_at, sum_same, low_at, high_at, rows_split}
use Rattle.mirror.specs.Block.{filtered_by, past_after, split_run}
use Rattle.mirror.proofs.Windows.{Left, none_left, place, left_next}

-- two rows that hold m pairs of w
module _ (w : List ℤ) {even odd : List ℤ} {m : ℕ} (e : Holds (λ (k : ℕ). nth w (2 * k + 0)) even m)
    (o : Holds (λ (k : ℕ). nth w (2 * k + 1)) odd m) where
  -- pair i, x and y, and the 22 samples before it
  module _ (i : ℕ) {p rest : List ℤ} {x y : ℤ} (f : Left 22 w (2 * i) p (x ∷ y ∷ rest)) (h : i + 12 ≤ m) where
    abbrev window : List ℤ
    window = p ++ (x ∷ y ∷ [])

    xa : taps_at 0 (nth odd) i ≡ accuma window
    unfolding taps_at accuma xin
    xa =
        sum_same _ _ 12 (λ j l.
        let c : 2 * j + 0 ≡ 2 * j = omega arith in
        let n : 2 * (i + 11 - j) + 1 ≡ 2 * i + (23 - 2 * j) = omega arith in
        let v = o.is (i + 11 - j) (omega arith) ∙ ap (nth w) n ∙ place (x ∷ y ∷ []) rest f (23 - 2 * j) (omega arith) in
        λ t. coefficient (c t) *ℤ v t)

    xb : taps_at 1 (nth even) i ≡ accumb window
    unfolding taps_at accumb xin
    xb =
        sum_same _ _ 12 (λ j l.
        let n : 2 * (i + 11 - j) + 0 ≡ 2 * i + (23 - (2 * j + 1)) = omega arith in
        let v = e.is (i + 11 - j) (omega arith) ∙ ap (nth w) n ∙ place (x ∷ y ∷ []) rest f (23 - (2 * j + 1)) (omega arith) in
        λ t. coefficient (2 * j + 1) *ℤ v t)

    low_at_lem : low_at even odd i ≡ lowt window
    unfolding low_at lowt
    low_at_lem = λ t. shr (xa t +ℤ xb t) 13

    high_at_lem : high_at even odd i ≡ hight window
    unfolding high_at hight
    high_at_lem = λ t. shr (xa t -ℤ xb t) 13

  -- n pairs from pair i on: they come behind p, and are s
  pub record SplitAs (n i : ℕ) (p s : List ℤ) : Type 0 where
    pub full : in_turn (low_at even odd) (high_at even odd) i n ≡ split_in_full p s
    pub low : from (λ (k : ℕ). limit (low_at even odd k)) i n ≡ filtered_by lowt p s
    pub high : from (λ (k : ℕ). limit (high_at even odd k)) i n ≡ filtered_by hight p s
    pub past : drop (2 * (i + n)) w ≡ past_after p s

  pub split_as : (n i : ℕ) (p s : List ℤ) → length s ≡ 2 * n → Left 22 w (2 * i) p s → i + n + 11 ≤ m → SplitAs n i p s
  unfolding in_turn from split_in_full filtered_by past_after
  split_as zero i p [] k f h = record { full = refl; low = refl; high = refl; past = none_left f (2 * (i + 0)) (omega arith) }
  split_as zero i p (x ∷ s) k f h = absurd (omega arith)
  split_as (suc n) i p [] k f h = absurd (omega arith)
  split_as (suc n) i p (x ∷ []) k f h = absurd (omega arith)
  split_as (suc n) i p (x ∷ y ∷ rest) k f h =
      let next = left_next (x ∷ y ∷ []) rest f (2 * suc i) (omega arith) in
      let r = split_as n (suc i) _ rest (omega arith) next (omega arith) in
      let a = low_at_lem i f (omega arith) in
      let b = high_at_lem i f (omega arith) in
      let z : 2 * (i + suc n) ≡ 2 * (suc i + n) = omega arith in
      record {
        full = λ t. a t ∷ b t ∷ r.full t;
        low = λ t. limit (a t) ∷ r.low t;
        high = λ t. limit (b t) ∷ r.high t;
        past = ap (λ (j : ℕ). drop j w) z ∙ r.past;
      }

  -- the last c pairs
  pub kept_as : (b i c : ℕ) → length w ≡ 2 * (b + i + c) → b + i + c ≤ m
      → in_turn (λ (k : ℕ). nth even (b + k)) (λ (k : ℕ). nth odd (b + k)) i c ≡ drop (2 * (b + i)) w
  unfolding in_turn
  kept_as b i zero l h = sym (drop_of_length-le w {i = 2 * (b + i)} (omega arith))
  kept_as b i (suc c) l h =
      let z : 2 * (b + i) + 0 ≡ 2 * (b + i) = omega arith in
      let n : b + suc i ≡ b + i + 1 = omega arith in
      let x = e.is (b + i) (omega arith) ∙ ap (nth w) z in
      let r = kept_as b (suc i) c (omega arith) (omega arith) ∙ ap (λ (k : ℕ). drop (2 * k) w) n in
      (λ t. x t ∷ o.is (b + i) (omega arith) t ∷ r t) ∙ sym (drop_pair w (b + i) (pos 0) (omega arith))

-- so what the rows of a block give is what the definitions give of it
pub split_whole : (past s : List ℤ) (n : ℕ) {even odd next low high : List ℤ} {count : ℕ} → length past ≡ 22 → length s ≡ 2 * n
    → Holds (λ (k : ℕ). nth (past ++ s) (2 * k + 0)) even (11 + length s / 2)
    → Holds (λ (k : ℕ). nth (past ++ s) (2 * k + 1)) odd (11 + length s / 2)
    → Does (rows_split even odd n) count (low, high)
    → next ≡ in_turn (λ (k : ℕ). nth even (n + k)) (λ (k : ℕ). nth odd (n + k)) 0 11
    → Does (split_run past s) (record { limited = count; past = next }) (low, high)
split_whole past s n l k e o r q =
    let w = past ++ s in
    let t = split_as w e o n 0 past s k (record { long = l; is = refl }) (omega arith) in
    let z : n + 0 ≡ 0 + n = omega arith in
    let next = q ∙ kept_as w e o n 0 11 (length-append past s ∙ omega arith) (omega arith) ∙ ap (λ (j : ℕ). drop (2 * j) w) z ∙ t.past in
    let count = r.answer ∙ ap overloads t.full in
    record {
      answer = λ j. record { limited = count j; past = next j };
      left = r.left ∙ λ j. (t.low j, t.high j);
    }
