-- The public functions of `host_c`, each by its own contract: it asks nothing, and leaves one answer and one content of lent memory.
use base.Stored.{coded×, coded_list, coded_ℕ}
use Rattle.laws.specs.One.{LeavesOne, call}
use Rattle.host_c.proofs as host_c
use Rattle.host_c.specs.contracts as contracts

pub zelcandry_code : LeavesOne contracts.zelcandry_code.ended (λ M 𝓤. contracts.zelcandry_code.clauses) host_c.zelcandry_code.Symbol.name host_c.zelcandry_code.Symbol.code
zelcandry_code =
    call (coded× (coded_list coded_ℕ) (coded_list coded_ℕ)) (λ κs a l m e i. ((e i).0, (tt, ((e i).1, tt)))) (λ M. host_c.zelcandry_code.Met.met)

pub zelcandry_decode : LeavesOne contracts.zelcandry_decode.ended (λ M 𝓤. contracts.zelcandry_decode.clauses) host_c.zelcandry_decode.Symbol.name host_c.zelcandry_decode.Symbol.code
zelcandry_decode =
    call (coded× (coded_list coded_ℕ) (coded_list coded_ℕ)) (λ κs a l m e i. ((e i).0, (tt, (tt, ((e i).1, tt)))))
    (λ M. host_c.zelcandry_decode.Met.met)

pub zelcandry_put : LeavesOne contracts.zelcandry_put.ended (λ M 𝓤. contracts.zelcandry_put.clauses) host_c.zelcandry_put.Symbol.name host_c.zelcandry_put.Symbol.code
zelcandry_put = call (coded_list coded_ℕ) (λ κs a l m e i. (tt, (e i, (tt, tt)))) (λ M. host_c.zelcandry_put.Met.met)

pub zelcandry_take : LeavesOne contracts.zelcandry_take.ended (λ M 𝓤. contracts.zelcandry_take.clauses) host_c.zelcandry_take.Symbol.name host_c.zelcandry_take.Symbol.code
zelcandry_take = call (coded_list coded_ℕ) (λ κs a l m e i. (tt, (tt, (e i, tt)))) (λ M. host_c.zelcandry_take.Met.met)
