-- The public functions of `host_steps_c`, each by its own contract: it asks nothing, and leaves one answer and one content of lent memory.
use base.Stored.{coded×, coded_list, coded_ℕ}
use Rattle.laws.specs.One.{LeavesOne, call}
use Rattle.host_steps_c.proofs as host_steps_c
use Rattle.host_steps_c.specs.contracts as contracts

pub zelcandry_hear : LeavesOne contracts.zelcandry_hear.ended (λ M 𝓤. contracts.zelcandry_hear.clauses)
    host_steps_c.zelcandry_hear.Symbol.name host_steps_c.zelcandry_hear.Symbol.code
zelcandry_hear =
    call (coded× (coded_list coded_ℕ) (coded× (coded_list coded_ℕ) (coded_list coded_ℕ)))
    (λ κs a l m e i. ((e i).0, (tt, (tt, ((e i).1.0, ((e i).1.1, tt))))))
    (λ M. host_steps_c.zelcandry_hear.Met.met)

pub zelcandry_join : LeavesOne contracts.zelcandry_join.ended (λ M 𝓤. contracts.zelcandry_join.clauses)
    host_steps_c.zelcandry_join.Symbol.name host_steps_c.zelcandry_join.Symbol.code
zelcandry_join =
    call (coded× (coded_list coded_ℕ) (coded_list coded_ℕ)) (λ κs a l m e i. ((e i).0, (tt, (tt, ((e i).1, tt)))))
    (λ M. host_steps_c.zelcandry_join.Met.met)
