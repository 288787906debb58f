use Rattle.std.proofs.Common.{length, ◌≤◌}
use Rattle.sequences.proofs.text.words.Given as goal

abbrev pub invariant-loop-line : goal.invariant-loop-line
invariant-loop-line l = l.n ≤ length l.room
