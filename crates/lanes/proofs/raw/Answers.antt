-- `lanes::raw` meets its contract: no product of 16 bits is too large.
use Rattle.std.proofs.Common.{SFits, to_z-of_z, le_trans, le_of_eq, mul-le-mul}
use mir.Syntax.{w16}
use lib.IntN.{◌*ℤ◌}
use Rattle.laws.specs.Back.{widened}
use Rattle.laws.specs.Size.{product_fits, shr_fits, abs_mul, abs16}
use Rattle.idle.specs.Plain.{raw, shr_small}
use Rattle.lanes.proofs.raw.Goals as goal

pub overflow_mul-result : goal.overflow_mul-result
overflow_mul-result c =
    let f : SFits w16 c.add.result = record { sfits = c.add.type_inv } in
    rw (widened c.from.type_inv c.from.ensures c.ranges.b, widened c.from-2.type_inv c.from-2.ensures f) (product_fits c.ranges.b f)

pub returns : goal.returns
unfolding raw
returns c =
    let b = c.args.b in
    let v = c.add.result in
    let f : SFits w16 v = record { sfits = c.add.type_inv } in
    let m = product_fits c.ranges.b f in
    let small = le_trans (le_of_eq (abs_mul b v)) (mul-le-mul (abs16 c.ranges.b) (abs16 f)) in
    simp (
      widened c.from.type_inv c.from.ensures c.ranges.b,
      widened c.from-2.type_inv c.from-2.ensures f,
      to_z-of_z m,
      to_z-of_z (shr_fits 32768 m),
    ) (simp (c.add.ensures, to_z-of_z c.ranges.d), shr_small (b *ℤ v) small)
