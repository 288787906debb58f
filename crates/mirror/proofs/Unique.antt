-- The public functions of `mirror`, each by its own contract: it asks nothing, and leaves one answer and one content of lent memory.
use base.Stored.{coded×, coded_list, coded_ℤ}
use Rattle.laws.specs.One.{LeavesOne, call}
use Rattle.mirror.proofs as mirror
use Rattle.mirror.specs.contracts as contracts

pub split : LeavesOne contracts.split.ended (λ M 𝓤. contracts.split.clauses) mirror.split.Symbol.name mirror.split.Symbol.code
split =
    call (coded× (coded_list coded_ℤ) (coded_list coded_ℤ)) (λ κs a l m e i. (tt, (tt, ((e i).0, ((e i).1, tt)))))
    (λ M. mirror.split.Met.met)

pub join : LeavesOne contracts.join.ended (λ M 𝓤. contracts.join.clauses) mirror.join.Symbol.name mirror.join.Symbol.code
join = call (coded_list coded_ℤ) (λ κs a l m e i. (tt, (tt, (tt, (e i, tt))))) (λ M. mirror.join.Met.met)
