-- The public function of `conference`, by its own contract: it asks nothing, and leaves one answer.
use mathlib.Core.Path.{refl}
use Rattle.laws.specs.One.{LeavesOne, equation}
use Rattle.conference.proofs as conference
use Rattle.conference.specs.contracts as contracts

pub RefusalFromRefusedReset-from : LeavesOne contracts.RefusalFromRefusedReset.from.ended (λ M 𝓤. contracts.RefusalFromRefusedReset.from.clauses) conference.RefusalFromRefusedReset.from.Symbol.name conference.RefusalFromRefusedReset.from.Symbol.code
RefusalFromRefusedReset-from = equation (λ κs a l m. refl) (λ M. conference.RefusalFromRefusedReset.from.Met.met)
