use Rattle.std.proofs.Common.{◌*◌, ◌≤◌}
use Rattle.encode.proofs.run.Given as goal

-- each turn moves the index by at most 16000
abbrev pub invariant-loop : goal.invariant-loop
invariant-loop g l = l.at.sample ≤ 16000 * l.counter
