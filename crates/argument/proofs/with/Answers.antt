-- `argument::with` meets its contract: the sum and the product of 32 bits fail where the definition stops.
use Rattle.std.proofs.Common.{arith}
use Rattle.std.proofs.lemmas.Bool.Decides.{nat_tests}
use Rattle.argument.specs.Number.{with, below}
use Rattle.argument.proofs.with.Goals as goal

pub returns-then-not-contains : goal.returns-then-not-contains
unfolding with below
returns-then-not-contains c = grind (arith, nat_tests)

pub returns-in_err-checked_mul : goal.returns-in_err-checked_mul
unfolding with below
returns-in_err-checked_mul c = grind (arith, nat_tests)

pub returns : goal.returns
unfolding with below
returns c = grind (arith, nat_tests)
