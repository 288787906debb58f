-- `sweep::factors::factors` meets its contract: a number of 16 bits stays as it is when it is kept to them.
use Rattle.std.proofs.Common.{rules}
use Rattle.idle.specs.Recursive.{stop16}
use Rattle.idle.specs.Factors.{factors_of}
use Rattle.sweep.proofs.factors.factors.Goals as goal

pub returns : goal.returns
unfolding factors_of
returns c =
    let f = c.args.f in
    search (rules, stop16 f.log f.log_bound, stop16 f.scale f.scale_bound)
