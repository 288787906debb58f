-- Where a level is not above the size, the count goes on behind it.
use Rattle.std.proofs.Common.{◌∙◌, sym, lit<}
use mir.Facts.{to_z-of_z}
use Rattle.g722.specs.Tables.{q6}
use Rattle.quant.proofs.Counting.{behind}
use Rattle.quant.proofs.levels.low_interval.Goals as goal

pub returns-else-below-2 : goal.returns-else-below-2
unfolding q6
returns-else-below-2 c =
    let e = rw (to_z-of_z c.ranges.scale) at (sym c.below-then-below.ensures ∙ c.if-below-2.false) in
    rw (to_z-of_z c.ranges.scale) at c.search-else-below-2.ensures ∙ behind c.args.size 5 (lit< tt) c.args.scale e

pub returns-then-below-3 : goal.returns-then-below-3
unfolding q6
returns-then-below-3 c =
    let e = rw (to_z-of_z c.ranges.scale) at (sym c.below.ensures ∙ c.if-below.false) in
    rw (to_z-of_z c.ranges.scale) at c.search-then-below-3.ensures ∙ behind c.args.size 10 (lit< tt) c.args.scale e

pub returns-else-below-3 : goal.returns-else-below-3
unfolding q6
returns-else-below-3 c =
    let e = rw (to_z-of_z c.ranges.scale) at (sym c.below-else-below.ensures ∙ c.if-below-3.false) in
    rw (to_z-of_z c.ranges.scale) at c.search-else-below-3.ensures ∙ behind c.args.size 19 (lit< tt) c.args.scale e
