-- The output with its sign, and the product of that and the scale.
use Rattle.std.proofs.Common.{◌∙◌, true, ◌*◌}
use mir.Facts.{to_z-of_z}
use lib.IntN.{+ℤ_idl}
use Rattle.laws.specs.Back.{back32}
use Rattle.g722.specs.Arithmetic.{neg}
use Rattle.quant.specs.Unstopped.{mul_comm}
use Rattle.quant.proofs.Laws.{eight_small, eight_read, signed_small, small_fits, mul_fits}
use Rattle.quant.proofs.inverse.inverse.Goals.{then-negative, else-negative}
use Rattle.quant.proofs.inverse.inverse.Goals as goal

pub overflow_cast-result : goal.overflow_cast-result
overflow_cast-result c = rw (back32 c.product.result c.product.type_inv ∙ c.product.ensures) (mul_fits _ _)

pub returns : goal.returns
returns c =
    let n = c.args.q * 8 in
    let read = back32 c.product.result c.product.type_inv ∙ c.product.ensures in
    let turned = small_fits {z = neg n} (signed_small true n (eight_small c.args.q c.requires)) in
    rw (to_z-of_z (overflow_cast-result c), read) (
    elim c.if-negative.branch [
      | then-negative w ↦
          simp (w.if-negative.true, w.product-is, eight_read c.args.q c.requires, +ℤ_idl (neg n), to_z-of_z turned, to_z-of_z c.ranges.det) (mul_comm _ _)
      | else-negative w ↦ simp (w.if-negative.false, w.product-is, eight_read c.args.q c.requires, to_z-of_z c.ranges.det) (mul_comm _ _)
    ])
