-- The public functions of `refusal`, each by its own contract: it asks nothing, and leaves one answer.
use mathlib.Core.Path.{refl}
use Rattle.laws.specs.One.{LeavesOne, equation}
use Rattle.refusal.proofs as refusal
use Rattle.refusal.specs.contracts as contracts

pub say : LeavesOne contracts.say.ended (λ M 𝓤. contracts.say.clauses) refusal.say.Symbol.name refusal.say.Symbol.code
say = equation (λ κs a l m. refl) (λ M. refusal.say.Met.met)

pub overload : LeavesOne contracts.overload.ended (λ M 𝓤. contracts.overload.clauses) refusal.overload.Symbol.name refusal.overload.Symbol.code
overload = equation (λ κs a l m. refl) (λ M. refusal.overload.Met.met)

pub fail : LeavesOne contracts.fail.ended (λ M 𝓤. contracts.fail.clauses) refusal.fail.Symbol.name refusal.fail.Symbol.code
fail = equation (λ κs a l m. refl) (λ M. refusal.fail.Met.met)

pub report : LeavesOne contracts.report.ended (λ M 𝓤. contracts.report.clauses) refusal.report.Symbol.name refusal.report.Symbol.code
report = equation (λ κs a l m. refl) (λ M. refusal.report.Met.met)

pub StopFromRefusal-from : LeavesOne contracts.StopFromRefusal.from.ended (λ M 𝓤. contracts.StopFromRefusal.from.clauses) refusal.StopFromRefusal.from.Symbol.name refusal.StopFromRefusal.from.Symbol.code
StopFromRefusal-from = equation (λ κs a l m. refl) (λ M. refusal.StopFromRefusal.from.Met.met)
