-- `overload_line` meets its contract.
use Rattle.lines.specs.Text.{ascii}
use Rattle.lines.specs.Lines.{overload_line}
use Rattle.lines.proofs.Laws.{both, finished}
use Rattle.lines.proofs.overload_line.Goals as goal

pub returns : goal.returns
unfolding overload_line ascii
returns c =
    finished c.empty.ensures.0 (both (both (both c.put.ensures c.word-end.ensures) c.field.ensures) c.word.ensures)
