-- `block_line` meets its contract.
use Rattle.std.proofs.Common.{◌∙◌}
use mir.Facts.{to_z-of_z}
use Rattle.lines.specs.Lines.{line_of, block_line}
use Rattle.lines.proofs.Laws.{both, finished}
use Rattle.lines.proofs.block_line.Goals as goal

pub returns : goal.returns
unfolding block_line
returns c =
    let r = c.ranges in
    let samples = both (both (both c.put.ensures c.field-end.ensures) c.signed_field.ensures) c.signed_field-samples.ensures in
    finished c.empty.ensures.0
    (both (both (both (both samples c.field.ensures) c.field-counted.ensures) c.field-2.ensures) c.decimal.ensures)
    ∙ λ i. line_of (block_line (c.from-4.ensures i) (c.from-3.ensures i) (c.from-2.ensures i) c.args.count
    (to_z-of_z r.first i) (to_z-of_z r.last i) (c.from.ensures i))
