-- The samples so far.
use Rattle.std.proofs.Common.{ℕ, ◌+◌, ◌*◌, length}
use Rattle.mirror.specs.Rows.{nth}
use Rattle.mirror.proofs.Loops.{Stored}
use Rattle.mirror.proofs.rows.every_second.Given as goal

abbrev pub invariant-loop-i : goal.invariant-loop-i
invariant-loop-i l = Stored (λ (k : ℕ). nth l.samples (2 * k + l.phase)) (length l.fn.row) l.row l.i
