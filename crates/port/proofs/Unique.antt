-- The public functions of `port`, each by its own contract: it asks nothing, and leaves one answer.
use mathlib.Core.Path.{refl}
use Rattle.laws.specs.One.{LeavesOne, equation}
use Rattle.port.proofs as port
use Rattle.port.specs.contracts as contracts

pub heard : LeavesOne contracts.heard.ended (λ M 𝓤. contracts.heard.clauses) port.heard.Symbol.name port.heard.Symbol.code
heard = equation (λ κs a l m. refl) (λ M. port.heard.Met.met)

pub sent : LeavesOne contracts.sent.ended (λ M 𝓤. contracts.sent.clauses) port.sent.Symbol.name port.sent.Symbol.code
sent = equation (λ κs a l m. refl) (λ M. port.sent.Met.met)
