-- The public functions of `host`, each by its own contract: it asks nothing, and leaves one answer and one content of lent memory.
use mathlib.Core.Path.{refl}
use base.Stored.{coded×, coded_list, coded_ℕ}
use Rattle.laws.specs.One.{LeavesOne, equation, call}
use Rattle.host.proofs as host
use Rattle.host.specs.contracts as contracts

pub accepted : LeavesOne contracts.accepted.ended (λ M 𝓤. contracts.accepted.clauses) host.accepted.Symbol.name host.accepted.Symbol.code
accepted = equation (λ κs a l m. refl) (λ M. host.accepted.Met.met)

pub refused : LeavesOne contracts.refused.ended (λ M 𝓤. contracts.refused.clauses) host.refused.Symbol.name host.refused.Symbol.code
refused = equation (λ κs a l m. refl) (λ M. host.refused.Met.met)

pub zelcandry_code : LeavesOne contracts.zelcandry_code.ended (λ M 𝓤. contracts.zelcandry_code.clauses) host.zelcandry_code.Symbol.name host.zelcandry_code.Symbol.code
zelcandry_code =
    call (coded× (coded_list coded_ℕ) (coded_list coded_ℕ)) (λ κs a l m e i. ((e i).0, (tt, ((e i).1, tt)))) (λ M. host.zelcandry_code.Met.met)

pub zelcandry_decode : LeavesOne contracts.zelcandry_decode.ended (λ M 𝓤. contracts.zelcandry_decode.clauses) host.zelcandry_decode.Symbol.name host.zelcandry_decode.Symbol.code
zelcandry_decode =
    call (coded× (coded_list coded_ℕ) (coded_list coded_ℕ)) (λ κs a l m e i. ((e i).0, (tt, (tt, ((e i).1, tt)))))
    (λ M. host.zelcandry_decode.Met.met)

pub zelcandry_put : LeavesOne contracts.zelcandry_put.ended (λ M 𝓤. contracts.zelcandry_put.clauses) host.zelcandry_put.Symbol.name host.zelcandry_put.Symbol.code
zelcandry_put = call (coded_list coded_ℕ) (λ κs a l m e i. (tt, (e i, (tt, tt)))) (λ M. host.zelcandry_put.Met.met)

pub zelcandry_take : LeavesOne contracts.zelcandry_take.ended (λ M 𝓤. contracts.zelcandry_take.clauses) host.zelcandry_take.Symbol.name host.zelcandry_take.Symbol.code
zelcandry_take = call (coded_list coded_ℕ) (λ κs a l m e i. (tt, (tt, (e i, tt)))) (λ M. host.zelcandry_take.Met.met)
