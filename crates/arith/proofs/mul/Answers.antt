-- `arith::mul` meets its contract, by that of the limit.
use Rattle.std.proofs.Common.{to_z-of_z}
use Rattle.laws.specs.Back.{back16, widened}
use Rattle.laws.specs.Size.{product_fits, shr_fits}
use Rattle.g722.specs.Arithmetic.{mul}
use Rattle.arith.proofs.mul.Goals as goal

pub returns : goal.returns
unfolding mul
returns c =
    let product = product_fits c.ranges.a c.ranges.b in
    cc (
      back16 c.clamp.result c.clamp.type_inv,
      widened c.from.type_inv c.from.ensures c.ranges.a,
      widened c.from-2.type_inv c.from-2.ensures c.ranges.b,
      to_z-of_z product,
      to_z-of_z (shr_fits 32768 product),
    )
