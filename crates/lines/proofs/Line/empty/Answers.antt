-- `Line::empty` meets its contract.
use Rattle.lines.proofs.Laws.{empty_line, empty_ready}
use Rattle.lines.proofs.Line.empty.Goals as goal

pub returns : goal.returns
returns c = (empty_line, empty_ready empty_line)
