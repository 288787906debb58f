-- `arith::sub` meets its contract, by that of the limit.
use Rattle.std.proofs.Common.{to_z-of_z}
use Rattle.laws.specs.Back.{back16, widened}
use Rattle.laws.specs.Size.{difference_fits}
use Rattle.g722.specs.Arithmetic.{sub}
use Rattle.arith.proofs.sub.Goals as goal

pub returns : goal.returns
unfolding sub
returns c =
    cc (
      back16 c.clamp.result c.clamp.type_inv,
      widened c.from.type_inv c.from.ensures c.ranges.a,
      widened c.from-2.type_inv c.from-2.ensures c.ranges.b,
      to_z-of_z (difference_fits c.ranges.a c.ranges.b),
    )
