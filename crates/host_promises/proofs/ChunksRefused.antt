-- A refused chunk of a stream changes nothing and counts nothing, and only number 4 has an index.
-- Assumes nothing.
use Rattle.std.specs.Prelude.{◌||◌, not, List, ℕ, ◌*◌, ltb, eqb, length}
use Rattle.laws.specs.Order.{by_test}
use Rattle.g722.specs.Records.{good_decoder}
use Rattle.g722.specs.Coding.{not_coded}
use Rattle.g722.specs.Decoding.{decoded}
use Rattle.g722.specs.declared.Coder.{Coder}
use Rattle.g722.specs.declared.Decoder.{Decoder}
use Rattle.pcm.specs.Chunks.{encode_chunk, not_stored, as_bytes, decode_chunk}
use Rattle.promises.proofs.Refused.{Beside}
use Rattle.promises.proofs.RefusedLaws.{unchanged, accepted, code_beside}

-- THE THEOREMS: the record and what was lent, of each chunk

pub encode_chunk_beside : (c : Coder) (bytes octets : List ℕ) → let x = encode_chunk c bytes octets in
    Beside x.answer.number x.answer.index x.answer.limited {X = Coder × List ℕ} (x.answer.next, x.left) (c, octets)
unfolding encode_chunk not_coded
encode_chunk_beside c bytes octets =
    by_test (eqb (length bytes) (4 * length octets)) (λ e. rw e (code_beside c _ octets)) (λ e. rw e unchanged)

pub decode_chunk_beside : (d : Decoder) (told : ℕ) (octets bytes : List ℕ) → let x = decode_chunk d told octets bytes in
    Beside x.answer.number x.answer.index x.answer.limited {X = Decoder × List ℕ} (x.answer.next, x.left) (d, bytes)
unfolding decode_chunk not_stored as_bytes decoded
decode_chunk_beside d told octets bytes =
    by_test (ltb 3 told) (λ e. rw e unchanged) (λ e.
    by_test (ltb 8000 (length octets) || not (eqb (length bytes) (4 * length octets))) (λ f. rw (e, f) unchanged) (λ f.
    by_test (good_decoder d) (λ g. rw (e, f, g) accepted) (λ g. rw (e, f, g) unchanged)))
