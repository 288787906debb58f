-- what a call of i samples leaves
use Rattle.std.proofs.Common.{◌≡◌}
use Rattle.big_endian.specs.Bytes.{loaded}
use Rattle.big_endian.proofs.samples.load.Given as goal

abbrev pub invariant-loop-i : goal.invariant-loop-i
invariant-loop-i l = l.x-items ≡ (loaded l.i l.bytes l.initial.x-items).left
