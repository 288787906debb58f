-- The public functions of `pcm`, each by its own contract: it asks nothing, and leaves one answer and one content of lent memory.
use base.Stored.{coded×, coded_list, coded_ℕ}
use Rattle.laws.specs.One.{LeavesOne, seen_call}
use Rattle.g722.proofs.Tells.{answered_tells}
use Rattle.pcm.proofs as pcm
use Rattle.pcm.specs.contracts as contracts

pub encode_chunk : LeavesOne contracts.encode_chunk.ended (λ M 𝓤. contracts.encode_chunk.clauses) pcm.encode_chunk.Symbol.name pcm.encode_chunk.Symbol.code
encode_chunk = seen_call (coded_list coded_ℕ) (λ κs a r s. answered_tells a.0 r s) (λ κs a l m e i. (tt, (tt, (e i, tt)))) (λ M. pcm.encode_chunk.Met.met)

pub decode_chunk : LeavesOne contracts.decode_chunk.ended (λ M 𝓤. contracts.decode_chunk.clauses) pcm.decode_chunk.Symbol.name pcm.decode_chunk.Symbol.code
decode_chunk = seen_call (coded_list coded_ℕ) (λ κs a r s. answered_tells a.0 r s) (λ κs a l m e i. (tt, (tt, (tt, (e i, tt))))) (λ M. pcm.decode_chunk.Met.met)

pub hear_chunk : LeavesOne contracts.hear_chunk.ended (λ M 𝓤. contracts.hear_chunk.clauses) pcm.hear_chunk.Symbol.name pcm.hear_chunk.Symbol.code
hear_chunk =
    seen_call (coded× (coded_list coded_ℕ) (coded_list coded_ℕ)) (λ κs a r s. answered_tells a.0 r s)
    (λ κs a l m e i. (tt, (tt, (tt, ((e i).0, ((e i).1, tt))))))
    (λ M. pcm.hear_chunk.Met.met)

pub join_chunk : LeavesOne contracts.join_chunk.ended (λ M 𝓤. contracts.join_chunk.clauses) pcm.join_chunk.Symbol.name pcm.join_chunk.Symbol.code
join_chunk = seen_call (coded_list coded_ℕ) (λ κs a r s. answered_tells a.0 r s) (λ κs a l m e i. (tt, (tt, (tt, (e i, tt))))) (λ M. pcm.join_chunk.Met.met)
