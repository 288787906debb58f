-- `bounds::in_range` meets its contract, by that of its call.
use Rattle.std.proofs.Common.{to_z-of_z}
use Rattle.g722.specs.Records.{in_range}
use Rattle.bounds.proofs.in_range.Goals as goal

pub returns : goal.returns
unfolding in_range
returns c = cc (to_z-of_z c.ranges.x)
