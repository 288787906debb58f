-- what a call of i samples leaves
use Rattle.std.proofs.Common.{◌≡◌}
use Rattle.big_endian.specs.Bytes.{stored}
use Rattle.big_endian.proofs.samples.store.Given as goal

abbrev pub invariant-loop-i : goal.invariant-loop-i
invariant-loop-i l = l.bytes ≡ (stored l.i l.samples l.initial.bytes).left
