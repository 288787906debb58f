-- Laws of the loops, on plain values: rows that are laid out in two parts, lists of what is left to store, and what was limited of them.
-- Assumes nothing.
use mathlib.Core.Path.{◌≡◌, refl, sym, ap, ◌∙◌}
use mathlib.Core.Bool.{cond}
use mathlib.Core.List.{List, [], ◌∷◌, ◌++◌}
use Prim.Native.Nat.{ℕ, zero, suc, ◌+◌, ◌*◌, ◌-◌, ◌/◌, ◌≤◌, ◌<◌}
use native.Mathlib.Numerals.{add-one}
use native.Mathlib.Omega.{arith}
use lib.IntN.{ℤ, pos}
use borrow.Author.Tests.{ltb-true, ltb-false}
use borrow.Rule.Slice.PartMut.{put_mid, same_len_mid}
use lib.Dec.{ltb}
use lib.ListN.{length, take, drop, set, length-append, length-take, length-drop, length-set, get_or-append}
use lib.Seq.{get_or-append-add, get_or-take}
use Rattle.std.proofs.lemmas.List.{take_at}
use Rattle.std.proofs.lemmas.Slice.{take-put_mid}
use Rattle.laws.specs.Order.{by_test}
use Rattle.laws.specs.Turns.{put_one, put_pair, put_all}
use Rattle.facts.specs.Overload.{Counted, none_counted, two_counted}
use Rattle.g722.specs.Arithmetic.{limited, changes, overloads}
use Rattle.mirror.specs.Rows.{nth, Holds, from, in_turn}

-- ---- a row that is laid out in two parts

-- a number of two lists, one behind the other
pub either : (p x : List ℤ) (n k : ℕ) → length p ≡ n → nth (p ++ x) k ≡ cond (ltb k n) (nth p k) (nth x (k - n))
either p x n k l =
    by_test (ltb k n) (λ e. rw e (get_or-append p x (pos 0) k (omega (arith, ltb-true k n e))))
    (λ e.
    let h : k ≡ length p + (k - n) = omega (arith, ltb-false k n e) in
    rw e (ap (nth (p ++ x)) h ∙ get_or-append-add p x (k - n) (pos 0)))

-- and of f i, f (i + 1), ..
from_long : (f : ℕ → ℤ) (i n : ℕ) → length (from f i n) ≡ n
unfolding from
from_long f i zero = refl
from_long f i (suc n) = ap suc (from_long f (suc i) n)

from_at : (f : ℕ → ℤ) (i n k : ℕ) → k < n → nth (from f i n) k ≡ f (i + k)
unfolding from
from_at f i zero k h = absurd (omega arith)
from_at f i (suc n) zero h = let e : i ≡ i + 0 = omega arith in ap f e
from_at f i (suc n) (suc k) h = let e : suc i + k ≡ i + suc k = omega arith in from_at f (suc i) n k (omega arith) ∙ ap f e

stored_at : (f : ℕ → ℤ) {x : List ℤ} {n k : ℕ} → x ≡ from f 0 n → k < n → nth x k ≡ f k
stored_at f {n = n} {k = k} e h = let z : 0 + k ≡ k = omega arith in ap (λ (l : List ℤ). nth l k) e ∙ from_at f 0 n k h ∙ ap f z

-- so of a row on which eleven numbers are stored, and then n behind them
module _ (f g : ℕ → ℤ) (row : List ℤ) {a b : List ℤ} {n r : ℕ} (e : length row ≡ 171) (few : n ≤ 160) (r≡ : r ≡ n)
    (a≡ : a ≡ from f 0 (length (take 11 row))) (b≡ : b ≡ from g 0 (length (take r (drop 11 (put_mid 0 11 row a))))) where
  abbrev first : List ℤ
  first = put_mid 0 11 row a

  front : length (take 11 row) ≡ 11
  front = omega (arith, length-take 11 row)

  a_long : length a ≡ 11
  a_long = ap length a≡ ∙ from_long f 0 (length (take 11 row)) ∙ front

  first_long : length first ≡ 171
  first_long = simp (length-append, length-drop) (omega (arith, a_long, e))

  room : length (take r (drop 11 first)) ≡ n
  room = omega (arith, length-take r (drop 11 first), length-drop 11 first, first_long)

  b_long : length b ≡ length (take r (drop 11 first))
  b_long = ap length b≡ ∙ from_long g 0 (length (take r (drop 11 first)))

  pub laid_long : length (put_mid 11 r first b) ≡ 171
  laid_long = same_len_mid 11 r first b b_long ∙ first_long

  pub laid : (k : ℕ) → k < 11 + n → nth (put_mid 11 r first b) k ≡ cond (ltb k 11) (f k) (g (k - 11))
  laid k h =
      let both : take (11 + n) (put_mid 11 r first b) ≡ a ++ b =
      take-put_mid 11 r first b (11 + n) (omega (arith, b_long, room)) (omega (arith, first_long))
      ∙ ap (λ (t : List ℤ). t ++ b) (take_at a (drop 11 row) 11 a_long) in
      sym (get_or-take (11 + n) (put_mid 11 r first b) k (pos 0) h)
      ∙ ap (λ (t : List ℤ). nth t k) both
      ∙ either a b 11 k a_long
      ∙ by_test (ltb k 11)
      (λ t. let in_a : k < length (take 11 row) = omega (arith, ltb-true k 11 t, front) in rw t (stored_at f a≡ in_a))
      (λ t. let in_b : k - 11 < length (take r (drop 11 first)) = omega (arith, ltb-false k 11 t, room) in rw t (stored_at g b≡ in_b))

-- every second number of p, and then of s
pub dealt : (p s : List ℤ) (phase : ℕ) (row : List ℤ) {a b : List ℤ} {r : ℕ} → length row ≡ 171 → length p ≡ 22 → length s ≤ 320 → phase ≤ 1
    → r ≡ length s / 2 → a ≡ from (λ (k : ℕ). nth p (2 * k + phase)) 0 (length (take 11 row))
    → b ≡ from (λ (k : ℕ). nth s (2 * k + phase)) 0 (length (take r (drop 11 (put_mid 0 11 row a))))
    → Holds (λ (k : ℕ). nth (p ++ s) (2 * k + phase)) (put_mid 11 r (put_mid 0 11 row a) b) (11 + length s / 2)
dealt p s phase row e p≡ few low r≡ a≡ b≡ =
    let f : ℕ → ℤ = λ k. nth p (2 * k + phase) in
    let g : ℕ → ℤ = λ k. nth s (2 * k + phase) in
    record {
      long = laid_long f g row e (omega arith) r≡ a≡ b≡;
      is = λ k h.
          laid f g row e (omega arith) r≡ a≡ b≡ k h
          ∙ by_test (ltb k 11)
          (λ t. let i : 2 * k + phase < length p = omega (arith, ltb-true k 11 t) in rw t (sym (get_or-append p s (pos 0) (2 * k + phase) i)))
          (λ t.
          let i : 2 * k + phase ≡ length p + (2 * (k - 11) + phase) = omega (arith, ltb-false k 11 t) in
          rw t (sym (ap (nth (p ++ s)) i ∙ get_or-append-add p s (2 * (k - 11) + phase) (pos 0))));
    }

-- what f makes of the numbers of p and q, and then of those of s and t
pub crossed : (f : ℤ → ℤ → ℤ) (p q s t row : List ℤ) {a b : List ℤ} {r : ℕ} → length p ≡ 11 → length q ≡ 11 → length row ≡ 171 → length s ≤ 160
    → r ≡ length s → a ≡ from (λ (k : ℕ). f (nth p k) (nth q k)) 0 (length (take 11 row))
    → b ≡ from (λ (k : ℕ). f (nth s k) (nth t k)) 0 (length (take r (drop 11 (put_mid 0 11 row a))))
    → Holds (λ (k : ℕ). f (nth (p ++ s) k) (nth (q ++ t) k)) (put_mid 11 r (put_mid 0 11 row a) b) (11 + length s)
crossed f p q s t row p≡ q≡ e few r≡ a≡ b≡ =
    let past : ℕ → ℤ = λ k. f (nth p k) (nth q k) in
    let new : ℕ → ℤ = λ k. f (nth s k) (nth t k) in
    record {
      long = laid_long past new row e few r≡ a≡ b≡;
      is = λ k h.
          laid past new row e few r≡ a≡ b≡ k h
          ∙ rw (either p s 11 k p≡, either q t 11 k q≡) (by_test (ltb k 11) (λ i. rw i) (λ i. rw i));
    }

-- ---- a list of n numbers that is made one by one

module _ (f : ℕ → ℤ) (n : ℕ) where
  pub record Stored (x : List ℤ) (i : ℕ) : Type 0 where
    pub long : length x ≡ n
    pub all : take i x ++ from f i (n - i) ≡ from f 0 n

  pub stored_none : (x : List ℤ) → length x ≡ n → Stored x 0
  stored_none x l = record { long = l; all = ap (from f 0) (let e : n - 0 ≡ n = omega arith in e) }

  module _ {x : List ℤ} {i : ℕ} (e : Stored x i) where
    pub stored_more : {v : ℤ} → i < n → v ≡ f i → Stored (set x i v) (i + 1)
    unfolding from
    stored_more {v} h v≡ =
        let m : n - i ≡ suc (n - (i + 1)) = omega arith in
        record {
          long = length-set x i v ∙ e.long;
          all =
              put_one x _ i v (omega (arith, e.long))
              ∙ (λ j. take i x ++ v≡ j ∷ from f (add-one i j) (n - (i + 1)))
              ∙ ap (λ (l : ℕ). take i x ++ from f i l) (sym m)
              ∙ e.all;
        }

    pub stored_all : n ≤ i → x ≡ from f 0 n
    unfolding from
    stored_all h =
        let m : n - i ≡ 0 = omega arith in
        sym (put_all x _ i (omega (arith, e.long)) (ap (from f i) m)) ∙ e.all

-- ---- and one that is made pair by pair

module _ (f g : ℕ → ℤ) (n : ℕ) where
  -- a pair comes off the front
  turn : {i : ℕ} → i < n → in_turn f g i (n - i) ≡ f i ∷ g i ∷ in_turn f g (i + 1) (n - (i + 1))
  unfolding in_turn
  turn {i} h =
      let m : n - i ≡ suc (n - (i + 1)) = omega arith in
      ap (in_turn f g i) m ∙ ap (λ (k : ℕ). f i ∷ g i ∷ in_turn f g k (n - (i + 1))) (sym (add-one i))

  end : {i : ℕ} → n ≤ i → in_turn f g i (n - i) ≡ []
  unfolding in_turn
  end {i} h = let m : n - i ≡ 0 = omega arith in ap (in_turn f g i) m

  pub record Paired (x : List ℤ) (i : ℕ) : Type 0 where
    pub long : length x ≡ 2 * n
    pub all : take (2 * i) x ++ in_turn f g i (n - i) ≡ in_turn f g 0 n

  pub paired_none : (x : List ℤ) → length x ≡ 2 * n → Paired x 0
  paired_none x l = record { long = l; all = ap (in_turn f g 0) (let e : n - 0 ≡ n = omega arith in e) }

  module _ {x : List ℤ} {i : ℕ} (e : Paired x i) where
    pub paired_more : {v w : ℤ} → i < n → v ≡ f i → w ≡ g i → Paired (set (set x (2 * i) v) (2 * i + 1) w) (i + 1)
    paired_more {v} {w} h v≡ w≡ =
        record {
          long = length-set (set x (2 * i) v) (2 * i + 1) w ∙ length-set x (2 * i) v ∙ e.long;
          all =
              put_pair x _ i v w (omega (arith, e.long))
              ∙ (λ j. take (2 * i) x ++ v≡ j ∷ w≡ j ∷ in_turn f g (i + 1) (n - (i + 1)))
              ∙ ap (λ (l : List ℤ). take (2 * i) x ++ l) (sym (turn h))
              ∙ e.all;
        }

    pub paired_all : n ≤ i → x ≡ in_turn f g 0 n
    paired_all h = sym (put_all x _ (2 * i) (omega (arith, e.long)) (end h)) ∙ e.all

  -- how many of its values were limited, where they stand in full
  abbrev pub Counting : ℕ → ℕ → Type 0
  Counting c i = Counted c (overloads (in_turn f g i (n - i))) (overloads (in_turn f g 0 n)) i

  pub counted_none : Counting 0 0
  counted_none = rw (let e : n - 0 ≡ n = omega arith in e) (none_counted _)

  pub counted_more : {c m i : ℕ} → Counting c i → i < n → m ≡ changes (limited (f i)) (limited (g i)) → Counting (c + m) (i + 1)
  unfolding overloads
  counted_more {i = i} e h m≡ = two_counted (f i) (g i) e m≡ (omega (arith, ap overloads (turn h)))

  pub counted_all : {c i : ℕ} → Counting c i → n ≤ i → c ≡ overloads (in_turn f g 0 n)
  unfolding overloads
  counted_all e h = omega (arith, e.all, ap overloads (end h))
