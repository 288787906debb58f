-- What is counted from place i on, and i, make what is counted from the first place on.
use Rattle.std.proofs.Common.{◌-◌}
use Rattle.quant.proofs.Counting.{Counted}
use Rattle.quant.proofs.levels.search.Given as goal

abbrev pub invariant-loop-i : goal.invariant-loop-i
invariant-loop-i l = Counted l.from l.size l.scale l.i

abbrev pub decreases-loop-i : goal.decreases-loop-i
decreases-loop-i l = 29 - l.i
