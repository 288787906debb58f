-- The numbers of 32 bits are read back, and the test is whether the level is above the size.
use Rattle.std.proofs.Common.{◌≡◌, pos, rules, arith, ◌+ℤ◌, ◌*ℤ◌}
use mir.Syntax.{w32}
use mir.Val.{SFits, to_z, of_z}
use mir.Facts.{to_z-of_z}
use Rattle.laws.specs.Back.{widened}
use Rattle.quant.proofs.Laws.{level_product_fits}
use Rattle.quant.proofs.Counting.{level_test}
use Rattle.quant.proofs.levels.below.Goals as goal

pub returns : goal.returns
returns c =
    let a = c.args in
    let size : to_z w32 (of_z w32 c.from.result) ≡ pos a.size = search rules in
    let q : to_z w32 (of_z w32 c.from-2.result) ≡ pos a.q = search rules in
    let next : SFits w32 (pos a.size +ℤ pos 1) = record { sfits = omega arith } in
    let scaled : SFits w32 ((pos a.size +ℤ pos 1) *ℤ pos 4096) = record { sfits = omega arith } in
    simp (
      size,
      q,
      widened c.from-3.type_inv c.from-3.ensures c.ranges.scale,
      to_z-of_z next,
      to_z-of_z scaled,
      to_z-of_z (level_product_fits a.q c.requires c.ranges.scale),
    ) (level_test a.size a.q a.scale c.requires c.ranges.scale)
