-- The public functions of `decoder`, each by its own contract: it asks nothing, and leaves one answer and one content of lent memory.
use mathlib.Core.Path.{refl}
use base.Stored.{coded×, coded_list, coded_ℤ}
use Rattle.laws.specs.One.{LeavesOne, equation, seen_call}
use Rattle.g722.proofs.Tells.{answered_tells}
use Rattle.decoder.proofs as decoder
use Rattle.decoder.specs.contracts as contracts

pub reset : LeavesOne contracts.reset.ended (λ M 𝓤. contracts.reset.clauses) decoder.reset.Symbol.name decoder.reset.Symbol.code
reset = equation (λ κs a l m. refl) (λ M. decoder.reset.Met.met)

pub good_decoder : LeavesOne contracts.good_decoder.ended (λ M 𝓤. contracts.good_decoder.clauses) decoder.good_decoder.Symbol.name decoder.good_decoder.Symbol.code
good_decoder = equation (λ κs a l m. refl) (λ M. decoder.good_decoder.Met.met)

pub decode : LeavesOne contracts.decode.ended (λ M 𝓤. contracts.decode.clauses) decoder.decode.Symbol.name decoder.decode.Symbol.code
decode =
    seen_call (coded_list coded_ℤ) (λ κs a r s. answered_tells a.0 r s) (λ κs a l m e i. (tt, (tt, (tt, (e i, tt)))))
    (λ M. decoder.decode.Met.met)

pub hear : LeavesOne contracts.hear.ended (λ M 𝓤. contracts.hear.clauses) decoder.hear.Symbol.name decoder.hear.Symbol.code
hear =
    seen_call (coded× (coded_list coded_ℤ) (coded_list coded_ℤ)) (λ κs a r s. answered_tells a.0 r s)
    (λ κs a l m e i. (tt, (tt, (tt, ((e i).0, ((e i).1, tt))))))
    (λ M. decoder.hear.Met.met)

pub join : LeavesOne contracts.join.ended (λ M 𝓤. contracts.join.clauses) decoder.join.Symbol.name decoder.join.Symbol.code
join =
    seen_call (coded_list coded_ℤ) (λ κs a r s. answered_tells a.0 r s) (λ κs a l m e i. (tt, (tt, (tt, (e i, tt)))))
    (λ M. decoder.join.Met.met)
