-- `sweep::poles::filtep` meets its contract: two products after their shift are small, so only their sum is stopped.
use Rattle.std.proofs.Common.{rules}
use Rattle.idle.specs.Recursive.{stop_abs, filtep_is, fit_of}
use Rattle.sweep.proofs.poles.filtep.Goals as goal

pub scaled-requires-clause-b_bound : goal.scaled-requires-clause-b_bound
scaled-requires-clause-b_bound c = search (rules, c.args.w.t1_is, stop_abs)

pub scaled-requires-2-clause-b_bound : goal.scaled-requires-2-clause-b_bound
scaled-requires-2-clause-b_bound c = search (rules, c.args.w.t2_is, stop_abs)

pub returns : goal.returns
returns c =
    let w = c.args.w in
    search (rules, filtep_is w (fit_of w), stop_abs)
