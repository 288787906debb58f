-- The public functions of `at_hand`, each by its own contract: it asks nothing, and leaves one answer.
use mathlib.Core.Path.{refl}
use Rattle.laws.specs.One.{LeavesOne, equation}
use Rattle.at_hand.proofs as at_hand
use Rattle.at_hand.specs.contracts as contracts

pub outputs : LeavesOne contracts.outputs.ended (λ M 𝓤. contracts.outputs.clauses) at_hand.outputs.Symbol.name at_hand.outputs.Symbol.code
outputs = equation (λ κs a l m. refl) (λ M. at_hand.outputs.Met.met)

pub weights : LeavesOne contracts.weights.ended (λ M 𝓤. contracts.weights.clauses) at_hand.weights.Symbol.name at_hand.weights.Symbol.code
weights = equation (λ κs a l m. refl) (λ M. at_hand.weights.Met.met)

pub ilb : LeavesOne contracts.ilb.ended (λ M 𝓤. contracts.ilb.clauses) at_hand.ilb.Symbol.name at_hand.ilb.Symbol.code
ilb = equation (λ κs a l m. refl) (λ M. at_hand.ilb.Met.met)
