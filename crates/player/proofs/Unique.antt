-- The public functions of `player`, each by its own contract: it asks nothing, and leaves one answer and one content of lent memory.
use mathlib.Core.Path.{refl}
use base.Stored.{coded_list, coded_ℤ}
use Rattle.laws.specs.One.{LeavesOne, equation, seen_call}
use Rattle.player.proofs.Tells.{played_tells}
use Rattle.player.proofs as player
use Rattle.player.specs.contracts as contracts

pub start : LeavesOne contracts.start.ended (λ M 𝓤. contracts.start.clauses) player.start.Symbol.name player.start.Symbol.code
start = equation (λ κs a l m. refl) (λ M. player.start.Met.met)

pub play : LeavesOne contracts.play.ended (λ M 𝓤. contracts.play.clauses) player.play.Symbol.name player.play.Symbol.code
play = seen_call (coded_list coded_ℤ) (λ κs a r s. played_tells a.0 r s) (λ κs a l m e i. (tt, (tt, (e i, tt)))) (λ M. player.play.Met.met)
