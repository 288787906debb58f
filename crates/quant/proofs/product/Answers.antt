-- Both factors are read back, and the product is not stopped.
use Rattle.std.proofs.Common.{sym}
use mir.Facts.{to_z-of_z}
use Rattle.laws.specs.Back.{widened}
use Rattle.laws.specs.Size.{product_fits, shr_fits}
use Rattle.quant.specs.Unstopped.{unstopped}
use Rattle.quant.proofs.product.Goals as goal

pub returns : goal.returns
returns c =
    let fits = product_fits c.ranges.a c.ranges.b in
    simp (
      widened c.from.type_inv c.from.ensures c.ranges.a,
      widened c.from-2.type_inv c.from-2.ensures c.ranges.b,
      to_z-of_z fits,
      to_z-of_z (shr_fits 32768 fits),
    ) (sym (unstopped c.args.a c.args.b c.requires c.ranges.b))
