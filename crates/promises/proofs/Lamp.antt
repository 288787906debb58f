-- The counts of calls one after the other: together they are the count over all that the accepted calls had in full. One law for all calls.
-- Assumes nothing.
use Rattle.std.specs.Prelude.{◌≡◌, true, false, ℕ, ◌+◌, ℤ}
use Rattle.std.proofs.Math.Path.{refl}
use mathlib.Core.List.{List, [], ◌∷◌, ◌++◌, map}
use Rattle.std.proofs.Common.{arith}
use Rattle.laws.specs.Order.{by_test}
use Rattle.g722.specs.Arithmetic.{overloads}
use Rattle.facts.specs.Overload.{overloads_append}
use Rattle.promises.proofs.Through.{Calls, done, following, answers, of_accepted}

-- a sum of counts
unfoldable pub total : List ℕ → ℕ
total [] = 0
total (n ∷ ns) = n + total ns

-- calls that count: an accepted one the values in full that limiting changes, a refused one nothing
pub record Counts (C : Calls) : Type 0 where
  pub limited : C.Answer → ℕ
  pub full : C.State → C.Input → List ℤ
  pub counted : (s : C.State) (k : C.Input) → done C s k ≡ true → limited (C.call s k).answer ≡ overloads (full s k)
  pub dark : (s : C.State) (k : C.Input) → done C s k ≡ false → limited (C.call s k).answer ≡ 0

module _ (C : Calls) (L : Counts C) where
  open C use {State, Input, Answer, call}
  open L use {limited, full, counted, dark}

  -- what all the answers count together
  abbrev pub count_through : State → List Input → ℕ
  count_through s ks = total (map limited (answers C s ks))

  -- THE LAW: it is the count over the values in full of all accepted calls
  pub counts_add_up : (s : State) (ks : List Input) → count_through s ks ≡ overloads (of_accepted C full s ks)
  unfolding answers of_accepted total overloads
  counts_add_up s [] = refl
  counts_add_up s (k ∷ ks) =
      let more = counts_add_up (following C s k) ks in
      let rest = of_accepted C full (following C s k) ks in
      by_test (done C s k)
      (λ e. rw e (omega (arith, counted s k e, more, overloads_append (full s k) rest)))
      (λ e. rw e (omega (arith, dark s k e, more)))

-- of two rows the count of both together
pub two_rows : (C : Calls) (f g : C.State → C.Input → List ℤ) (s : C.State) (ks : List C.Input)
    → overloads (of_accepted C (λ t k. f t k ++ g t k) s ks) ≡ overloads (of_accepted C f s ks) + overloads (of_accepted C g s ks)
unfolding of_accepted overloads
two_rows C f g s [] = refl
two_rows C f g s (k ∷ ks) =
    let t = following C s k in
    let more = two_rows C f g t ks in
    let both = of_accepted C (λ u j. f u j ++ g u j) t ks in
    by_test (done C s k)
    (λ e. rw e (omega (
      arith,
      more,
      overloads_append (f s k ++ g s k) both,
      overloads_append (f s k) (g s k),
      overloads_append (f s k) (of_accepted C f t ks),
      overloads_append (g s k) (of_accepted C g t ks),
    )))
    (λ e. rw e more)
