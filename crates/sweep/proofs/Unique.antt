-- The public functions of `sweep`, each by its own contract: it asks nothing, and leaves one answer and one content of lent memory.
use base.Stored.{coded_list, coded_ℕ, coded_ℤ}
use Rattle.laws.specs.One.{LeavesOne, call}
use Rattle.sweep.proofs as sweep
use Rattle.sweep.specs.contracts as contracts

pub code_band : LeavesOne contracts.code_band.ended (λ M 𝓤. contracts.code_band.clauses) sweep.code_band.Symbol.name sweep.code_band.Symbol.code
code_band = call (coded_list coded_ℕ) (λ κs a l m e i. (tt, (tt, (tt, (e i, tt))))) (λ M. sweep.code_band.Met.met)

pub hear_band : LeavesOne contracts.hear_band.ended (λ M 𝓤. contracts.hear_band.clauses) sweep.hear_band.Symbol.name sweep.hear_band.Symbol.code
hear_band = call (coded_list coded_ℤ) (λ κs a l m e i. (tt, (tt, (tt, (tt, (e i, tt)))))) (λ M. sweep.hear_band.Met.met)
