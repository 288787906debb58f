-- The pairs so far.
use Rattle.std.proofs.Common.{length}
use Rattle.mirror.specs.Block.{stopped_xd, stopped_xs}
use Rattle.mirror.proofs.Loops.{Stored}
use Rattle.mirror.proofs.rows.differences_and_sums.Given as goal

abbrev pub invariant-loop-i : goal.invariant-loop-i
invariant-loop-i l =
    record {
      differences : Stored (stopped_xd l.low l.high) (length l.fn.xd) l.xd l.i;
      sums : Stored (stopped_xs l.low l.high) (length l.fn.xs) l.xs l.i;
    }
