-- `sweep::code::word` meets its contract: the high band's two bits stand above two others, and either word has six.
use Rattle.std.proofs.Common.{◌≡◌, refl, arith}
use mir.Facts.{to_z-of_z}
use Rattle.g722.specs.Quantise.{quanth}
use Rattle.facts.specs.Sent.{quantl_small, quanth_small}
use Rattle.sweep.proofs.code.word.Goals as goal

pub overflow_mul-result : goal.overflow_mul-result
overflow_mul-result c =
    let a = c.args in
    let e : c.quanth.result ≡ quanth a.e a.scale = rw (c.quanth.ensures, to_z-of_z c.ranges.e, to_z-of_z c.ranges.scale) in
    rw e (record { fits = omega (arith, quanth_small a.e a.scale) })

pub returns-then-high : goal.returns-then-high
returns-then-high c =
    let a = c.args in
    let e : c.quanth.result ≡ quanth a.e a.scale = rw (c.quanth.ensures, to_z-of_z c.ranges.e, to_z-of_z c.ranges.scale) in
    rw (c.if-high.true, e) (refl, omega (arith, quanth_small a.e a.scale))

pub returns-else-high : goal.returns-else-high
returns-else-high c =
    let a = c.args in
    rw (c.if-high.false, c.quantl.ensures, to_z-of_z c.ranges.e, to_z-of_z c.ranges.scale) (refl, quantl_small a.e a.scale)
