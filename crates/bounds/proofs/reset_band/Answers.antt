-- `bounds::reset_band` meets its contract.
use Rattle.std.proofs.Common.{to_z-of_z}
use Rattle.g722.specs.Records.{reset_band}
use Rattle.bounds.proofs.reset_band.Goals as goal

pub returns : goal.returns
unfolding reset_band
returns c = simp (to_z-of_z c.ranges.scale)
