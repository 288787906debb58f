-- `arith::fit` meets its contract: the definition makes the same two tests.
use Rattle.std.proofs.Common.{arith}
use Rattle.std.proofs.lemmas.Int.{ints, to_z-of_z}
use Rattle.laws.specs.Clamp.{clamp}
use Rattle.arith.proofs.fit.Goals as goal

pub returns-then-x-lo : goal.returns-then-x-lo
unfolding clamp
returns-then-x-lo c = grind (arith, ints, to_z-of_z)

pub returns-then-hi-x : goal.returns-then-hi-x
unfolding clamp
returns-then-hi-x c = grind (arith, ints, to_z-of_z)

pub returns-else-hi-x : goal.returns-else-hi-x
unfolding clamp
returns-else-hi-x c = grind (arith, ints, to_z-of_z)
