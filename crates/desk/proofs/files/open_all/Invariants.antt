use Rattle.std.proofs.Common.{◌+◌, ◌≤◌, vec_len}
use Rattle.desk.proofs.files.open_all.Given as goal

abbrev pub invariant-loop-i : goal.invariant-loop-i
invariant-loop-i g l = l.first + vec_len l.files ≤ l.i
