-- `refused_line` meets its contract.
use Rattle.std.proofs.Common.{◌∙◌}
use Rattle.lines.specs.Text.{ascii}
use Rattle.lines.specs.Lines.{line_of, refused_line}
use Rattle.lines.proofs.Laws.{both, finished}
use Rattle.lines.proofs.refused_line.Goals as goal

pub returns : goal.returns
unfolding refused_line ascii
returns c =
    finished c.empty.ensures.0 (both (both (both c.put-end.ensures c.field.ensures) c.field-numbers.ensures) c.word.ensures)
    ∙ λ i. line_of (refused_line (c.from.ensures i) c.args.blocks)
