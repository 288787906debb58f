-- What the listing says of a block that was played after so many others.
-- Assumes nothing.
use Rattle.std.specs.Prelude.{cond, List, ℕ, eqb}
use Rattle.playing.specs.Answer.{Played}
use Rattle.lines.specs.Lines.{block_line, refused_line}

unfoldable pub listed : Played → ℕ → List ℕ
listed p before =
    cond (eqb p.number 0)
    (block_line p.take p.block p.mode p.count p.first p.last p.limited)
    (refused_line p.number before)
