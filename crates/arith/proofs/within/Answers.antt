-- `arith::within` meets its contract: the definition makes the same tests.
use Rattle.std.proofs.Common.{arith}
use Rattle.std.proofs.lemmas.Int.{ints, to_z-of_z}
use Rattle.g722.specs.Arithmetic.{within}
use Rattle.arith.proofs.within.Goals as goal

pub returns : goal.returns
unfolding within
returns c = grind (arith, ints, to_z-of_z)
