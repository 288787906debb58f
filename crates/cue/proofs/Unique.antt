-- The public functions of `cue`, each by its own contract: it asks nothing, and leaves one answer and one content of lent memory.
use base.Stored.{coded_list, coded_ℕ}
use Rattle.laws.specs.One.{LeavesOne, seen_call}
use Rattle.g722.proofs.Tells.{moved_tells}
use Rattle.cue.proofs as cue
use Rattle.cue.specs.contracts as contracts

pub put : LeavesOne contracts.put.ended (λ M 𝓤. contracts.put.clauses) cue.put.Symbol.name cue.put.Symbol.code
put = seen_call (coded_list coded_ℕ) (λ κs a r s. moved_tells r s) (λ κs a l m e i. (tt, (e i, (tt, tt)))) (λ M. cue.put.Met.met)

pub take : LeavesOne contracts.take.ended (λ M 𝓤. contracts.take.clauses) cue.take.Symbol.name cue.take.Symbol.code
take = seen_call (coded_list coded_ℕ) (λ κs a r s. moved_tells r s) (λ κs a l m e i. (tt, (tt, (e i, tt)))) (λ M. cue.take.Met.met)
