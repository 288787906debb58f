-- The public functions of `g722`, each by its own contract: it asks nothing, and leaves one answer.
use mathlib.Core.Path.{refl}
use Rattle.laws.specs.One.{LeavesOne, equation}
use Rattle.g722.proofs as g722
use Rattle.g722.specs.contracts as contracts

pub Refusal-number : LeavesOne contracts.Refusal.number.ended (λ M 𝓤. contracts.Refusal.number.clauses) g722.Refusal.number.Symbol.name g722.Refusal.number.Symbol.code
Refusal-number = equation (λ κs a l m. refl) (λ M. g722.Refusal.number.Met.met)

pub Refusal-index : LeavesOne contracts.Refusal.index.ended (λ M 𝓤. contracts.Refusal.index.clauses) g722.Refusal.index.Symbol.name g722.Refusal.index.Symbol.code
Refusal-index = equation (λ κs a l m. refl) (λ M. g722.Refusal.index.Met.met)
