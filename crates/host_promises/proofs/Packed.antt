-- The answers that a host gets: the number, the index and the count of each stand in its word.
-- Assumes nothing.
use Rattle.std.specs.Prelude.{◌≡◌, ◌||◌, not, List, ℕ, ◌*◌, ◌<◌, ◌^◌, ltb, eqb, length}
use Rattle.std.proofs.Common.{arith, lit<}
use Rattle.laws.specs.Order.{by_test}
use Rattle.g722.specs.Records.{good_coder, good_decoder}
use Rattle.g722.specs.Coding.{first_bad, misfit, not_coded, coded, code_call}
use Rattle.g722.specs.Quantise.{in_force}
use Rattle.g722.specs.Decoding.{samples_in_full, decoded}
use Rattle.g722.specs.Cue.{unfilled, data_number, data_call, put_call, take_call}
use Rattle.g722.specs.declared.Coder.{Coder}
use Rattle.g722.specs.declared.Decoder.{Decoder}
use Rattle.facts.specs.Lengths.{not_over, twice, few}
use Rattle.facts.specs.Overload.{overloads_most}
use Rattle.facts.specs.Told.{full_length}
use Rattle.facts.specs.CodedRuns.{counted_most}
use Rattle.big_endian.specs.Bytes.{pcm_samples}
use Rattle.pcm.specs.Chunks.{encode_chunk, not_stored, as_bytes, decode_chunk, index_small}
use Rattle.state.specs.Layout.{coder_in, decoder_in}
use Rattle.host.specs.Answer.{packed, number_in, index_in, limited_in, parts_back}
use Rattle.host.specs.Calls.{after_coding, code_bytes, after_decoding, decode_bytes, after_data, put_bytes, take_bytes}

-- a word holds a number, an index and a count
pub record Parts (word n i l : ℕ) : Type 0 where
  pub number : number_in word ≡ n
  pub index : index_in word ≡ i
  pub count : limited_in word ≡ l

-- numbers of a byte, indices of 24 bits and counts of 32 have room in it
pub record Small (n i l : ℕ) : Type 0 where
  pub number : n < 2 ^ 8
  pub index : i < 2 ^ 24
  pub count : l < 2 ^ 32

pub parts : {n i l : ℕ} → Small n i l → Parts (packed n i l) n i l
parts {n} {i} {l} s =
    let p = parts_back n i l s.number s.index s.count in
    record { number = p.0; index = p.1; count = p.2 }

plain : {n : ℕ} → n < 2 ^ 8 → Small n 0 0
plain h = record { number = h; index = lit< tt; count = lit< tt }

-- ---- each call's

encode_number : (c : Coder) (b o : List ℕ) → (encode_chunk c b o).answer.number < 2 ^ 8
unfolding encode_chunk code_call not_coded coded
encode_number c b o =
    let s = pcm_samples b in
    by_test (eqb (length b) (4 * length o)) (λ e.
    by_test (misfit (length s) (length o)) (λ f. rw (e, f) (lit< tt)) (λ f.
    by_test (good_coder c) (λ g.
    by_test (ltb (first_bad s) (length s)) (λ k. rw (e, f, g, k) (lit< tt)) (λ k. rw (e, f, g, k) (lit< tt)))
    (λ g. rw (e, f, g) (lit< tt))))
    (λ e. rw e (lit< tt))

encode_count : (c : Coder) (b o : List ℕ) → (encode_chunk c b o).answer.limited < 2 ^ 32
unfolding encode_chunk code_call not_coded coded
encode_count c b o =
    let s = pcm_samples b in
    by_test (eqb (length b) (4 * length o)) (λ e.
    by_test (misfit (length s) (length o)) (λ f. rw (e, f) (lit< tt)) (λ f.
    by_test (good_coder c) (λ g.
    by_test (ltb (first_bad s) (length s)) (λ k. rw (e, f, g, k) (lit< tt))
    (λ k. rw (e, f, g, k) (omega (arith, counted_most c.past s, twice (length s) (length o) f, few (length s) (length o) f))))
    (λ g. rw (e, f, g) (lit< tt))))
    (λ e. rw e (lit< tt))

encode_small : (c : Coder) (b o : List ℕ) → let x = encode_chunk c b o in Small x.answer.number x.answer.index x.answer.limited
encode_small c b o =
    record { number = encode_number c b o; index = omega (arith, index_small c b o); count = encode_count c b o }

decode_small : (d : Decoder) (told : ℕ) (o b : List ℕ) → let x = decode_chunk d told o b in
    Small x.answer.number x.answer.index x.answer.limited
unfolding decode_chunk not_stored as_bytes decoded
decode_small d told o b =
    by_test (ltb 3 told) (λ e. rw e (plain (lit< tt))) (λ e.
    by_test (ltb 8000 (length o) || not (eqb (length b) (4 * length o))) (λ f. rw (e, f) (plain (lit< tt))) (λ f.
    by_test (good_decoder d)
    (λ g. let full = samples_in_full (in_force told) d o in
    let most = overloads_most full in
    let long = full_length (in_force told) d o in
    let short = not_over (length o) (not (eqb (length b) (4 * length o))) f in
    rw (e, f, g) (record { number = lit< tt; index = lit< tt; count = omega arith }))
    (λ g. rw (e, f, g) (plain (lit< tt)))))

data_small : (mode octets bytes : ℕ) → data_number mode octets bytes < 2 ^ 8
unfolding data_number
data_small mode o b =
    by_test (ltb 3 mode) (λ e. rw e (lit< tt)) (λ e.
    by_test (ltb mode 2) (λ f. rw (e, f) (lit< tt)) (λ f.
    by_test (unfilled mode o b) (λ g. rw (e, f, g) (lit< tt)) (λ g. rw (e, f, g) (lit< tt))))

-- THE THEOREMS: a host takes out of its word the number, the index and the count of the call on the record that its bytes hold, or on
-- the data

pub code_parts : (state samples octets : List ℕ) → let x = encode_chunk (coder_in state) samples octets in
    Parts (code_bytes state samples octets).answer x.answer.number x.answer.index x.answer.limited
unfolding code_bytes after_coding
code_parts state samples octets = parts (encode_small (coder_in state) samples octets)

pub decode_parts : (state : List ℕ) (told : ℕ) (octets samples : List ℕ) → let x = decode_chunk (decoder_in state) told octets samples in
    Parts (decode_bytes state told octets samples).answer x.answer.number x.answer.index x.answer.limited
unfolding decode_bytes after_decoding
decode_parts state told octets samples = parts (decode_small (decoder_in state) told octets samples)

pub put_parts : (mode : ℕ) (octets bytes : List ℕ) → let x = put_call mode octets bytes in
    Parts (put_bytes mode octets bytes).answer x.answer.number x.answer.index 0
unfolding put_bytes after_data put_call data_call
put_parts mode octets bytes = parts (plain (data_small mode (length octets) (length bytes)))

pub take_parts : (mode : ℕ) (octets bytes : List ℕ) → let x = take_call mode octets bytes in
    Parts (take_bytes mode octets bytes).answer x.answer.number x.answer.index 0
unfolding take_bytes after_data take_call data_call
take_parts mode octets bytes = parts (plain (data_small mode (length octets) (length bytes)))
