-- `bounds::all_in_range` meets its contract: what was found so far, and what the rest gives, is what the whole gives.
use Rattle.std.proofs.Common.{◌≡◌, ◌∙◌, refl, sym, ap, Bool, true, ◌&&◌, List, [], ◌∷◌, ◌++◌, ℤ, fold, rules, tests}
use Rattle.std.specs.Borrow.{Bor}
use Rattle.std.proofs.lemmas.Fn.{fold_over, slice_gives, fronts}
use mathlib.Core.Bool.{and_assoc, and-true}
use Rattle.g722.specs.Records.{in_range, all_in_range}
use Rattle.bounds.proofs.all_in_range.Goals as goal

abbrev step : Bool → ℤ → Bool
step ok z = ok && in_range z

found : (ok : Bool) (xs : List ℤ) → fold step ok xs ≡ (ok && all_in_range xs)
unfolding all_in_range
found ok [] = sym (and-true ok)
found ok (z ∷ zs) = found (step ok z) zs ∙ and_assoc ok (in_range z) (all_in_range zs)

push : (ok : Bool) (xs : List ℤ) (z : ℤ) → fold step ok (xs ++ (z ∷ [])) ≡ step (fold step ok xs) z
push ok [] z = refl
push ok (x ∷ xs) z = push (step ok x) xs z

next : (xs : List ℤ) (ok : Bool) (z : ℤ) (b : Bool) → ok ≡ fold step true xs → b ≡ step ok z → b ≡ fold step true (xs ++ (z ∷ []))
next xs ok z b e f = f ∙ ap (λ (t : Bool). step t z) e ∙ sym (push true xs z)

pub returns : goal.returns
returns c =
    let all = c.iter.result.rest.now in
    let e : c.fold.result ≡ fold step true all =
    fold_over fronts (λ (y : Bor ℤ). y.now) _ (λ (xs : List ℤ) (ok : Bool). ok ≡ fold step true xs) _
    (λ xs ok x b f h k. (next xs ok x.now b h (search (rules, tests)), search (rules, tests)))
    c.iter.result all true c.fold.result (slice_gives c.iter.result) refl c.fold.ensures.ran in
    let same : all ≡ c.args.xs.now = cc in
    e ∙ found true all ∙ ap all_in_range same
