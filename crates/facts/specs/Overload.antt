-- What a count of limited values means: how many of the values in full are out of range.
-- Assumes nothing.
use Rattle.std.specs.Prelude.{◌≡◌, refl, true, not, cond, List, [], ◌∷◌, ◌++◌, ℕ, suc, ◌+◌, ◌*◌, ◌^◌, ◌≤◌, ◌<◌, ℤ, pos, length}
use Rattle.std.proofs.Common.{sym, ap, ◌∙◌, zero-le, arith}
use Rattle.laws.specs.Order.{by_test, no}
use Rattle.laws.specs.Clamp.{clamp_id}
use Rattle.g722.specs.Arithmetic.{neg, equal, limit, limited, changes, overloads}
use Rattle.g722.specs.Within.{within_ends, equal_refl, equal_same}
use Rattle.g722.specs.Records.{in_range}
use Rattle.g722.specs.declared.Limited.{Limited}
use Rattle.facts.specs.Range.{limit_in_range}

-- ---- one value

-- what is in range stays as it is, and what stays as it is was in range
stays : (z : ℤ) → in_range z ≡ true → limit z ≡ z
unfolding in_range limit
stays z e = let w = within_ends (neg 16384) (pos 16383) z e in clamp_id (neg 16384) (pos 16383) z w.0 w.1

kept : (z : ℤ) → equal (limit z) z ≡ true → in_range z ≡ true
kept z e = sym (ap in_range (equal_same (limit z) z e)) ∙ limit_in_range z

-- so a value is changed exactly if it is out of range
pub changed_out : (z : ℤ) → (limited z).changed ≡ not (in_range z)
unfolding limited
changed_out z =
    by_test (in_range z)
    (λ e. rw (stays z e, equal_refl z, e))
    (λ e. by_test (equal (limit z) z) (λ f. no (sym (kept z f) ∙ e)) (λ f. rw (f, e)))

-- ---- a run

-- the places at which values from place i on are out of range
unfoldable pub places_out : ℕ → List ℤ → List ℕ
places_out i [] = []
places_out i (z ∷ zs) = cond (in_range z) (places_out (suc i) zs) (i ∷ places_out (suc i) zs)

places_from : (i : ℕ) (zs : List ℤ) → overloads zs ≡ length (places_out i zs)
unfolding overloads places_out
places_from i [] = refl
places_from i (z ∷ zs) =
    let more = places_from (suc i) zs in
    by_test (in_range z) (λ e. rw (changed_out z, e) (omega arith)) (λ e. rw (changed_out z, e) (omega arith))

-- THE LAW: the count is the number of places at which the value in full is out of range
pub overloads_are : (zs : List ℤ) → overloads zs ≡ length (places_out 0 zs)
overloads_are zs = places_from 0 zs

-- counts add up
pub overloads_append : (xs ys : List ℤ) → overloads (xs ++ ys) ≡ overloads xs + overloads ys
unfolding overloads
overloads_append [] ys = omega arith
overloads_append (x ∷ xs) ys = omega (arith, overloads_append xs ys)

-- there are no more than values
pub overloads_most : (zs : List ℤ) → overloads zs ≤ length zs
unfolding overloads
overloads_most [] = zero-le
overloads_most (z ∷ zs) =
    let h = overloads_most zs in
    by_test (limited z).changed (λ e. rw e (omega arith)) (λ e. rw e (omega arith))

-- ---- a count that is taken two values at a time

pub changes_most : (a b : Limited) → changes a b ≤ 2
unfolding changes
changes_most a b =
    by_test a.changed
    (λ e. by_test b.changed (λ f. rw (e, f) (omega arith)) (λ f. rw (e, f) (omega arith)))
    (λ e. by_test b.changed (λ f. rw (e, f) (omega arith)) (λ f. rw (e, f) (omega arith)))

-- after i turns it makes the whole with what is left, and is at most twice as many
pub record Counted (n left whole i : ℕ) : Type 0 where
  pub all : n + left ≡ whole
  pub most : n ≤ 2 * i

pub none_counted : (whole : ℕ) → Counted 0 whole whole 0
none_counted whole = record { all = omega arith; most = zero-le }

pub two_counted : {n left whole i m rest : ℕ} (y z : ℤ) → Counted n left whole i → m ≡ changes (limited y) (limited z)
    → left ≡ overloads (y ∷ z ∷ []) + rest → Counted (n + m) rest whole (i + 1)
unfolding changes overloads
two_counted y z f e l =
    let most = changes_most (limited y) (limited z) in
    record { all = omega (arith, f.all); most = omega (arith, f.most) }

-- a count of at most 8000 turns has room in 32 bits
pub room_for_two : {n left whole i m : ℕ} (a b : Limited) → Counted n left whole i → i ≤ 8000 → m ≡ changes a b → n + m < 2 ^ 32
room_for_two a b f h e = omega (arith, f.most, changes_most a b)
