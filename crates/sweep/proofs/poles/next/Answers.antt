-- `sweep::poles::next` meets its contract: each part by its own contract, and the next coefficients keep their bounds.
use Rattle.std.proofs.Common.{rules}
use Rattle.g722.specs.Arithmetic.{same_sign}
use Rattle.idle.specs.Recursive.{poles_of, second_abs, next_is}
use Rattle.idle.proofs.First.{first_abs}
use Rattle.sweep.proofs.poles.next.Goals as goal

pub first-a1-requires-clause-a2_bound : goal.first-a1-requires-clause-a2_bound
first-a1-requires-clause-a2_bound c = search (rules, second_abs)

pub invariant_of-result : goal.invariant_of-result
invariant_of-result c =
    let w = c.args.w in
    let p = c.args.p in
    let k = second_abs (same_sign p w.p1) (same_sign p w.p2) w.a1 w.a2 in
    search (rules, k, first_abs)

pub returns : goal.returns
unfolding poles_of
returns c =
    let w = c.args.w in
    search (rules, next_is w c.args.p c.args.r c.first-a1.result c.second-a2.result (search rules) (search rules))
