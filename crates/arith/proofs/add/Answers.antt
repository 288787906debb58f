-- `arith::add` meets its contract, by that of the limit.
use Rattle.std.proofs.Common.{to_z-of_z}
use Rattle.laws.specs.Back.{back16, widened}
use Rattle.laws.specs.Size.{sum_fits}
use Rattle.g722.specs.Arithmetic.{add}
use Rattle.arith.proofs.add.Goals as goal

pub returns : goal.returns
unfolding add
returns c =
    cc (
      back16 c.clamp.result c.clamp.type_inv,
      widened c.from.type_inv c.from.ensures c.ranges.a,
      widened c.from-2.type_inv c.from-2.ensures c.ranges.b,
      to_z-of_z (sum_fits c.ranges.a c.ranges.b),
    )
