-- The public functions of `lanes`, each by its own contract: it asks nothing, and leaves one answer.
use mathlib.Core.Path.{refl}
use Rattle.laws.specs.One.{LeavesOne, equation}
use Rattle.lanes.proofs as lanes
use Rattle.lanes.specs.contracts as contracts

pub plain : LeavesOne contracts.plain.ended (λ M 𝓤. contracts.plain.clauses) lanes.plain.Symbol.name lanes.plain.Symbol.code
plain = equation (λ κs a l m. refl) (λ M. lanes.plain.Met.met)

pub adapt : LeavesOne contracts.adapt.ended (λ M 𝓤. contracts.adapt.clauses) lanes.adapt.Symbol.name lanes.adapt.Symbol.code
adapt = equation (λ κs a l m. refl) (λ M. lanes.adapt.Met.met)
