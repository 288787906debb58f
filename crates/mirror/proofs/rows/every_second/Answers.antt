-- `mirror::every_second` meets its contract: each sample is copied to its place.
use Rattle.std.proofs.Common.{rules, arith}
use Rattle.laws.specs.Back.{back16}
use Rattle.mirror.proofs.Loops.{stored_more, stored_all}
use Rattle.mirror.proofs.rows.every_second.Goals as goal

pub loop-i-preserved : goal.loop-i-preserved
loop-i-preserved c = stored_more _ _ c.loop-i.invariant (omega arith) (back16 _ (search rules))

pub returns : goal.returns
returns c = stored_all _ _ c.loop-i.invariant (omega arith)
