-- `sweep::poles::narrowed` meets its contract: each number is stopped, and the coefficients are within their bounds.
use Rattle.std.proofs.Common.{rules, arith}
use Rattle.idle.specs.Recursive.{poles_of, stop_id}
use Rattle.sweep.proofs.poles.narrowed.Goals as goal

pub returns : goal.returns
unfolding poles_of
returns c =
    let w = c.args.w in
    search (rules, stop_id w.a1 (omega (arith, w.a1_bound)), stop_id w.a2 (omega (arith, w.a2_bound)))
