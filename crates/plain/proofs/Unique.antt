-- The public functions of `plain`, each by its own contract: it asks nothing, and leaves one answer.
use mathlib.Core.Path.{refl}
use Rattle.laws.specs.One.{LeavesOne, equation}
use Rattle.plain.proofs as plain
use Rattle.plain.specs.contracts as contracts

pub low_coded : LeavesOne contracts.low_coded.ended (λ M 𝓤. contracts.low_coded.clauses) plain.low_coded.Symbol.name plain.low_coded.Symbol.code
low_coded = equation (λ κs a l m. refl) (λ M. plain.low_coded.Met.met)

pub high_coded : LeavesOne contracts.high_coded.ended (λ M 𝓤. contracts.high_coded.clauses) plain.high_coded.Symbol.name plain.high_coded.Symbol.code
high_coded = equation (λ κs a l m. refl) (λ M. plain.high_coded.Met.met)

pub bands_coded : LeavesOne contracts.bands_coded.ended (λ M 𝓤. contracts.bands_coded.clauses) plain.bands_coded.Symbol.name plain.bands_coded.Symbol.code
bands_coded = equation (λ κs a l m. refl) (λ M. plain.bands_coded.Met.met)

pub low_heard : LeavesOne contracts.low_heard.ended (λ M 𝓤. contracts.low_heard.clauses) plain.low_heard.Symbol.name plain.low_heard.Symbol.code
low_heard = equation (λ κs a l m. refl) (λ M. plain.low_heard.Met.met)

pub high_heard : LeavesOne contracts.high_heard.ended (λ M 𝓤. contracts.high_heard.clauses) plain.high_heard.Symbol.name plain.high_heard.Symbol.code
high_heard = equation (λ κs a l m. refl) (λ M. plain.high_heard.Met.met)
