-- The public functions of `argument`, each by its own contract: it asks nothing, and leaves one answer.
use mathlib.Core.Path.{refl}
use Rattle.laws.specs.One.{LeavesOne, equation}
use Rattle.argument.proofs as argument
use Rattle.argument.specs.contracts as contracts

pub number : LeavesOne contracts.number.ended (λ M 𝓤. contracts.number.clauses) argument.number.Symbol.name argument.number.Symbol.code
number = equation (λ κs a l m. refl) (λ M. argument.number.Met.met)
