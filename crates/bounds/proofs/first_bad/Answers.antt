-- `bounds::first_bad` meets its contract: the first place of one out of range, or the length.
use Rattle.std.proofs.Common.{◌≡◌, ◌∙◌, refl, ap, arith, ℕ, ◌≤◌, Bool, not, cond, ltb, Option, List, [], ◌∷◌, length, ℤ, Some, None, unwrap_or, rules, tests}
use Rattle.std.specs.List.{position, position_or_len}
use Rattle.std.proofs.lemmas.Bool.Decides.{nat_tests}
use Rattle.std.proofs.lemmas.Iterator.{YieldsList-from_slice}
use Rattle.std.proofs.lemmas.Iterator.Search.{position_from_yields_List}
use Rattle.laws.specs.Order.{by_test}
use Rattle.g722.specs.Records.{in_range}
use Rattle.g722.specs.Coding.{first_bad}
use Rattle.bounds.proofs.first_bad.Goals as goal

abbrev out : ℤ → Bool
out z = not (in_range z)

-- the place that the definition finds
found : (xs : List ℤ) → (position_or_len out xs ≡ first_bad xs) × (first_bad xs ≤ length xs)
unfolding first_bad
found [] = (refl, omega arith)
found (z ∷ zs) =
    let rest = found zs in
    by_test (in_range z) (λ e. rw e (omega (arith, rest.0), omega (arith, rest.1))) (λ e. rw e (refl, omega arith))

or_length : (n m : ℕ) → n ≤ m → unwrap_or (cond (ltb n m) (Some n) None) m ≡ n
or_length n m h = grind (arith, nat_tests)

pub returns : goal.returns
returns c =
    let xs = c.args.xs.now in
    let place : c.position.result ≡ position out xs =
    position_from_yields_List out _ _ c.position.result c.position.ensures.ran (YieldsList-from_slice xs cc) (λ x b q k. search (rules, tests)) in
    let f = found xs in
    c.unwrap_or.ensures
    ∙ ap (λ (p : Option ℕ). unwrap_or p (length xs)) place
    ∙ or_length (position_or_len out xs) (length xs) (omega (arith, f.0, f.1))
    ∙ f.0
