-- A level that is not above the size is counted, and the count ends at the first that is.
use Rattle.std.proofs.Common.{◌∙◌, sym}
use mir.Syntax.{w16}
use mir.Val.{to_z, of_z}
use mir.Facts.{to_z-of_z}
use Rattle.g722.specs.Tables.{q6}
use Rattle.tables.specs.Entries.{q6_small}
use Rattle.quant.proofs.Counting.{end, on, over}
use Rattle.quant.proofs.levels.search.Goals as goal

pub below-requires : goal.below-requires
unfolding q6
below-requires c = q6_small c.loop-i.i

pub loop-i-preserved : goal.loop-i-preserved
unfolding q6
loop-i-preserved c =
    let a = c.args in
    on a.from a.size c.loop-i.i c.if-i-ge29.false (to_z w16 (of_z w16 a.scale)) (sym c.below.ensures ∙ c.if-below.false) c.loop-i.invariant

pub returns-then-i-ge29 : goal.returns-then-i-ge29
returns-then-i-ge29 c =
    let a = c.args in
    rw (← to_z-of_z c.ranges.scale) (end a.from a.size c.loop-i.i c.if-i-ge29.true (to_z w16 (of_z w16 a.scale)) c.loop-i.invariant)

pub returns-then-below : goal.returns-then-below
unfolding q6
returns-then-below c =
    let a = c.args in
    rw (← to_z-of_z c.ranges.scale)
    (over a.from a.size c.loop-i.i c.if-i-ge29.false (to_z w16 (of_z w16 a.scale)) (sym c.below.ensures ∙ c.if-below.true) c.loop-i.invariant)
