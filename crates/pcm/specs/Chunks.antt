-- A chunk of a stream: the coding and the decoding call on samples that stand as bytes, two a sample.
-- Assumes nothing.
use Rattle.std.specs.Prelude.{cond, ◌||◌, not, List, [], ◌∷◌, ℕ, ◌*◌, ◌≤◌, ltb, eqb, ℤ, length}
use Rattle.std.proofs.Common.{zero-le, suc-le-suc, arith, eqb-true, ltb-false}
use Rattle.laws.specs.Order.{by_test}
use Rattle.laws.specs.Outcome.{Outcome}
use Rattle.g722.specs.Quantise.{in_force}
use Rattle.g722.specs.Records.{in_range, good_coder, good_decoder}
use Rattle.g722.specs.Coding.{first_bad, misfit, not_coded, coded, code_call}
use Rattle.g722.specs.Decoding.{decoded}
use Rattle.g722.specs.declared.Coder.{Coder}
use Rattle.g722.specs.Answers.{Coded, Decoded}
use Rattle.g722.specs.declared.Decoder.{Decoder}
use Rattle.big_endian.specs.Bytes.{pcm_samples, pcm_bytes}

-- four bytes an octet, else 3
unfoldable pub encode_chunk : Coder → List ℕ → List ℕ → Outcome Coded (List ℕ)
encode_chunk c bytes octets =
    cond (eqb (length bytes) (4 * length octets)) (code_call c (pcm_samples bytes) octets) (not_coded 3 0 c octets)

-- a refused call gives back the record and the bytes as they came
unfoldable pub not_stored : ℕ → Decoder → List ℕ → Outcome Decoded (List ℕ)
not_stored number d bytes = record { answer = record { number = number; index = 0; limited = 0; next = d }; left = bytes }

-- the samples of a call as bytes
unfoldable pub as_bytes : Outcome Decoded (List ℤ) → Outcome Decoded (List ℕ)
as_bytes x = record { answer = x.answer; left = pcm_bytes x.left }

-- 1, then 3, then 2, as a decoding call has them
unfoldable pub decode_chunk : Decoder → ℕ → List ℕ → List ℕ → Outcome Decoded (List ℕ)
decode_chunk d told octets bytes =
    cond (ltb 3 told) (not_stored 1 d bytes)
    (cond (ltb 8000 (length octets) || not (eqb (length bytes) (4 * length octets))) (not_stored 3 d bytes)
    (cond (not (good_decoder d)) (not_stored 2 d bytes)
    (as_bytes (decoded (in_force told) d octets))))

-- ---- the index of a refused sample lies in the chunk

bad_within : (s : List ℤ) → first_bad s ≤ length s
unfolding first_bad
bad_within [] = zero-le
bad_within (x ∷ rest) = by_test (in_range x) (λ e. rw e (suc-le-suc (bad_within rest))) (λ e. rw e zero-le)

pub samples_within : (b : List ℕ) → 2 * length (pcm_samples b) ≤ length b
unfolding pcm_samples
samples_within [] = zero-le
samples_within (high ∷ []) = zero-le
samples_within (high ∷ low ∷ rest) = let h = samples_within rest in omega arith

call_within : (c : Coder) (s : List ℤ) (o : List ℕ) → (code_call c s o).answer.index ≤ length s
unfolding code_call not_coded coded
call_within c s o =
    by_test (misfit (length s) (length o)) (λ e. rw e zero-le) (λ e. rw e
    (by_test (good_coder c) (λ f. rw f
    (by_test (ltb (first_bad s) (length s)) (λ g. rw g (bad_within s)) (λ g. rw g zero-le))) (λ f. rw f zero-le)))

pub index_within : (c : Coder) (b o : List ℕ) → (encode_chunk c b o).answer.index ≤ 2 * length o
unfolding encode_chunk not_coded
index_within c b o =
    by_test (eqb (length b) (4 * length o))
    (λ e. rw e (omega (arith, eqb-true (length b) (4 * length o) e, call_within c (pcm_samples b) o, samples_within b)))
    (λ e. rw e zero-le)

pub index_small : (c : Coder) (b o : List ℕ) → (encode_chunk c b o).answer.index ≤ 16000
unfolding encode_chunk code_call misfit not_coded
index_small c b o =
    by_test (ltb 8000 (length o))
    (λ e. by_test (eqb (length b) (4 * length o)) (λ f. rw (f, e) zero-le) (λ f. rw f zero-le))
    (λ e. omega (arith, ltb-false 8000 (length o) e, index_within c b o))
