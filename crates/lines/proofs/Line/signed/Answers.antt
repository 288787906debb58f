-- `Line::signed` meets its contract.
use Rattle.std.proofs.Common.{◌∙◌, sym, ap, arith}
use mir.Facts.{to_z-of_z}
use lib.IntN.{nat_abs}
use Rattle.lines.proofs.Laws.{both, negative, positive}
use Rattle.lines.proofs.Line.signed.Goals as goal

pub returns-then-z-lt0 : goal.returns-then-z-lt0
returns-then-z-lt0 c =
    let f = to_z-of_z c.ranges.z in
    let size = c.from.ensures ∙ c.unsigned_abs.ensures.value ∙ ap nat_abs f in
    rw (sym (negative c.args.z c.from.result (rw f at c.if-z-lt0.true) size)) (both c.decimal-line.ensures c.put.ensures)

pub returns-else-z-lt0 : goal.returns-else-z-lt0
returns-else-z-lt0 c =
    let f = to_z-of_z c.ranges.z in
    let size = c.from.ensures ∙ c.unsigned_abs.ensures.value ∙ ap nat_abs f in
    let w = c.decimal-line.ensures in
    rw (sym (positive c.args.z c.from.result (rw f at c.if-z-lt0.false) size))
    (record { sound = w.sound; text = w.text; room = omega (arith, w.room) })
