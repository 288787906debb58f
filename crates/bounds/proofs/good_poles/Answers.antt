-- `bounds::good_poles` meets its contract, by those of its calls.
use Rattle.std.proofs.Common.{◌≡◌, ◌∙◌, sym, ◌&&◌, pos, SFits, to_z-of_z, rules}
use Rattle.std.specs.Int.{w16}
use Rattle.laws.specs.Back.{back16}
use Rattle.laws.specs.Order.{by_test}
use Rattle.g722.specs.Arithmetic.{neg, sub, within}
use Rattle.g722.specs.Within.{within_ends}
use Rattle.g722.specs.Band.{reach}
use Rattle.g722.specs.Records.{good_poles}
use Rattle.g722.specs.declared.Poles.{Poles}
use Rattle.facts.specs.Reach.{reach_exact, reach_negated}
use Rattle.bounds.proofs.Chosen.{went_on, stopped}
use Rattle.bounds.proofs.good_poles.Goals as goal
use Rattle.bounds.proofs.good_poles.Goals.{After-within}

-- where the second coefficient is within its bound the code meets no stop; where it is not, the rest does not matter
exact : (s : Poles) → (within (neg 12288) (pos 12288) s.a2 && within (sub (pos 0) (reach s.a2)) (reach s.a2) s.a1) ≡ good_poles s
unfolding good_poles
exact s =
    by_test (within (neg 12288) (pos 12288) s.a2)
    (λ e.
    let b = within_ends (neg 12288) (pos 12288) s.a2 e in
    rw (reach_exact s.a2 b.0 b.1, reach_negated s.a2 b.0 b.1))
    (λ e. rw e)

-- the test of the second coefficient
second : (c : After-within) → c.within.result ≡ within (neg 12288) (pos 12288) c.args.s.a2
second c = let f : SFits w16 c.args.s.a2 = search rules in cc (to_z-of_z f)

pub returns-then-within : goal.returns-then-within
unfolding reach
returns-then-within c =
    let s = c.args.s in
    let f : SFits w16 s.a1 = search rules in
    let g : SFits w16 s.a2 = search rules in
    let first : c.within-then-within.result ≡ within (sub (pos 0) (reach s.a2)) (reach s.a2) s.a1 =
    cc (back16 c.sub-reach.result c.sub-reach.type_inv, back16 c.sub.result c.sub.type_inv, to_z-of_z f, to_z-of_z g) in
    went_on (within (neg 12288) (pos 12288) s.a2) _ (sym (second (goal.at.returns-then-within c).After-within) ∙ c.if-within.true) first ∙ exact s

pub returns-else-within : goal.returns-else-within
returns-else-within c =
    stopped (within (neg 12288) (pos 12288) c.args.s.a2) _ (second (goal.at.returns-else-within c).After-within) c.if-within.false ∙ exact c.args.s
