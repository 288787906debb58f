-- `sweep::factors::scales` meets its contract: both factors are widened as they are.
use Rattle.std.proofs.Common.{rules}
use Rattle.idle.specs.Factors.{factors_of}
use Rattle.sweep.proofs.factors.scales.Goals as goal

pub returns : goal.returns
unfolding factors_of
returns c = search rules
