-- `mirror::differences_and_sums` meets its contract: pair by pair, a place of each row is written.
use Rattle.std.proofs.Common.{rules, arith, ◌∙◌}
use Rattle.laws.specs.Back.{back16}
use Rattle.g722.specs.Arithmetic.{add, sub}
use Rattle.mirror.specs.Rows.{nth}
use Rattle.mirror.proofs.Loops.{stored_more, stored_all}
use Rattle.mirror.proofs.rows.differences_and_sums.Goals as goal

pub loop-i-preserved : goal.loop-i-preserved
loop-i-preserved c =
    let v = c.loop-i.invariant in
    let l = back16 (nth c.args.low.now c.loop-i.i) (search rules) in
    let h = back16 (nth c.args.high.now c.loop-i.i) (search rules) in
    let d = back16 c.sub.result c.sub.type_inv ∙ c.sub.ensures ∙ λ j. sub (l j) (h j) in
    let s = back16 c.add.result c.add.type_inv ∙ c.add.ensures ∙ λ j. add (l j) (h j) in
    record { differences = stored_more _ _ v.differences (omega arith) d; sums = stored_more _ _ v.sums (omega arith) s }

pub returns-clause-differences : goal.returns-clause-differences
returns-clause-differences c = stored_all _ _ c.loop-i.invariant.differences (omega arith)

pub returns-clause-sums : goal.returns-clause-sums
returns-clause-sums c = stored_all _ _ c.loop-i.invariant.sums (omega arith)
