use Rattle.std.proofs.Common.{◌≤◌}
use Rattle.desk.proofs.files.read_all.Given as goal

abbrev pub invariant-loop-port : goal.invariant-loop-port
invariant-loop-port l = l.columns.least ≤ 1000
