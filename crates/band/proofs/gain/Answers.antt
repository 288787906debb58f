-- `band::gain` meets its contract.
use Rattle.std.proofs.Common.{rules}
use Rattle.g722.specs.Band.{gain}
use Rattle.g722.specs.Arithmetic.{equal, within}
use Rattle.band.proofs.gain.Goals as goal

pub returns-then-d-eq0 : goal.returns-then-d-eq0
unfolding gain equal within
returns-then-d-eq0 c = search rules

pub returns-else-d-eq0 : goal.returns-else-d-eq0
unfolding gain equal within
returns-else-d-eq0 c = search rules
