-- `arith::same` meets its contract: the definition makes the same tests.
use Rattle.std.proofs.Common.{arith}
use Rattle.std.proofs.lemmas.Int.{ints, to_z-of_z}
use Rattle.g722.specs.Arithmetic.{same_sign}
use Rattle.arith.proofs.same.Goals as goal

pub returns : goal.returns
unfolding same_sign
returns c = grind (arith, ints, to_z-of_z)
