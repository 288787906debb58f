-- A host's call that is refused changes nothing of what was lent, the state too, and only number 4 has an index; and the numbers come in
-- their order: state bytes that hold no record, or a broken one, get number 2 in its place.
-- Assumes nothing.
use Rattle.std.specs.Prelude.{◌≡◌, Bool, true, false, ◌||◌, not, List, ℕ, ◌*◌, ◌≤◌, ◌<◌, ltb, eqb}
use Rattle.std.proofs.Common.{sym, ap, ◌∙◌, arith}
use borrow.Author.Tests.{ne_eqb, eq-eqb, eqb-true, lt-ltb, le-ltb}
use Rattle.std.proofs.Math.ListN.{length}
use Rattle.laws.specs.Order.{by_test, no}
use Rattle.g722.specs.Records.{good_coder, good_decoder}
use Rattle.g722.specs.Coding.{misfit, not_coded, code_call}
use Rattle.big_endian.specs.Bytes.{pcm_samples, samples_length}
use Rattle.pcm.specs.Chunks.{encode_chunk, not_stored, decode_chunk}
use Rattle.state.specs.Layout.{holds, coder_in, decoder_in}
use Rattle.state.proofs.Reset.{unheld_coder_broken, unheld_decoder_broken}
use Rattle.host.specs.Answer.{packed, number_in, index_in, limited_in}
use Rattle.host.specs.Calls.{state_after, after_coding, code_bytes, after_decoding, decode_bytes, after_data, put_bytes, take_bytes}
use Rattle.promises.proofs.Refused.{Beside}
use Rattle.promises.proofs.RefusedLaws.{put_beside, take_beside}
use Rattle.host_promises.proofs.ChunksRefused.{encode_chunk_beside, decode_chunk_beside}
use Rattle.host_promises.proofs.Packed.{Parts, code_parts, decode_parts, put_parts, take_parts}

-- what is so beside the number, the index and the count is so beside the word that holds them
pub in_word : {word number index limited : ℕ} {X Y : Type 0} {back came : X} {back' came' : Y} → Parts word number index limited
    → Beside number index limited back came → ((number ≡ 0 → ⊥) → back ≡ came → back' ≡ came')
    → Beside (number_in word) (index_in word) (limited_in word) back' came'
in_word {number = number} p b f =
    record {
      kept = λ h. let n : number ≡ 0 → ⊥ = λ e. h (p.number ∙ e) in f n (b.kept n);
      dark = λ h. p.count ∙ b.dark (λ e. h (p.number ∙ e));
      plain = λ h. p.index ∙ b.plain (λ e. h (p.number ∙ e));
    }

-- the state of a refused call, beside what else was lent
pub stayed : (number : ℕ) (next state : List ℕ) {L : Type 0} {left lent : L} → (number ≡ 0 → ⊥) → left ≡ lent
    → ◌≡◌ {A = List ℕ × L} (state_after number next state, left) (state, lent)
stayed number next state n e = rw (ne_eqb number 0 n) (λ i. (state, e i))

-- THE THEOREMS: the state and what was lent, of each call

pub host_code_beside : (state samples octets : List ℕ) → let x = code_bytes state samples octets in
    Beside (number_in x.answer) (index_in x.answer) (limited_in x.answer) {X = List ℕ × List ℕ} x.left (state, octets)
unfolding code_bytes after_coding
host_code_beside state samples octets =
    in_word (code_parts state samples octets) (encode_chunk_beside (coder_in state) samples octets)
    (λ n e. stayed _ _ state n (ap (λ p. p.1) e))

pub host_decode_beside : (state : List ℕ) (told : ℕ) (octets samples : List ℕ) → let x = decode_bytes state told octets samples in
    Beside (number_in x.answer) (index_in x.answer) (limited_in x.answer) {X = List ℕ × List ℕ} x.left (state, samples)
unfolding decode_bytes after_decoding
host_decode_beside state told octets samples =
    in_word (decode_parts state told octets samples) (decode_chunk_beside (decoder_in state) told octets samples)
    (λ n e. stayed _ _ state n (ap (λ p. p.1) e))

pub host_put_beside : (mode : ℕ) (octets bytes : List ℕ) → let x = put_bytes mode octets bytes in
    Beside (number_in x.answer) (index_in x.answer) (limited_in x.answer) x.left octets
unfolding put_bytes after_data
host_put_beside mode octets bytes = in_word (put_parts mode octets bytes) (put_beside mode octets bytes) (λ n e. e)

pub host_take_beside : (mode : ℕ) (octets bytes : List ℕ) → let x = take_bytes mode octets bytes in
    Beside (number_in x.answer) (index_in x.answer) (limited_in x.answer) x.left bytes
unfolding take_bytes after_data
host_take_beside mode octets bytes = in_word (take_parts mode octets bytes) (take_beside mode octets bytes) (λ n e. e)

-- ---- the numbers in their order, whatever the state bytes are

-- lengths that do not fit: more than 8000 octets, or not four bytes an octet
abbrev pub unfit : ℕ → ℕ → Bool
unfit samples octets = ltb 8000 octets || not (eqb samples (4 * octets))

module _ (state samples octets : List ℕ) where
  pub host_code_3 : unfit (length samples) (length octets) ≡ true
      → code_bytes state samples octets ≡ record { answer = 3; left = (state, octets) }
  unfolding code_bytes after_coding packed encode_chunk code_call misfit not_coded
  host_code_3 h =
      by_test (eqb (length samples) (4 * length octets)) (λ e.
      by_test (ltb 8000 (length octets)) (λ f. rw (e, f)) (λ f. no (sym (rw (e, f) at h))))
      (λ e. rw e)

  pub host_decode_1 : (told : ℕ) → 3 < told → decode_bytes state told octets samples ≡ record { answer = 1; left = (state, samples) }
  unfolding decode_bytes after_decoding packed decode_chunk not_stored
  host_decode_1 told h = rw (lt-ltb 3 told h)

  pub host_decode_3 : (told : ℕ) → told ≤ 3 → unfit (length samples) (length octets) ≡ true
      → decode_bytes state told octets samples ≡ record { answer = 3; left = (state, samples) }
  unfolding decode_bytes after_decoding packed decode_chunk not_stored
  host_decode_3 told l h = rw (le-ltb 3 told l, h)

  -- where the lengths fit and the mode is told: of a broken record ..
  module _ (fit : unfit (length samples) (length octets) ≡ false) where
    pub host_code_2 : good_coder (coder_in state) ≡ false → code_bytes state samples octets ≡ record { answer = 2; left = (state, octets) }
    unfolding code_bytes after_coding packed encode_chunk code_call misfit not_coded
    host_code_2 g =
        by_test (ltb 8000 (length octets)) (λ f. no (rw f at fit)) (λ f.
        by_test (eqb (length samples) (4 * length octets)) (λ e.
        let four = eqb-true (length samples) (4 * length octets) e in
        let pairs : length (pcm_samples samples) ≡ 2 * length octets = samples_length (2 * length octets) samples (omega arith) in
        rw (e, f, eq-eqb _ _ pairs, g)) (λ e. no (rw (f, e) at fit)))

    pub host_decode_2 : (told : ℕ) → told ≤ 3 → good_decoder (decoder_in state) ≡ false
        → decode_bytes state told octets samples ≡ record { answer = 2; left = (state, samples) }
    unfolding decode_bytes after_decoding packed decode_chunk not_stored
    host_decode_2 told l g = rw (le-ltb 3 told l, fit, g)

    -- .. and of no record: another length, or another kind
    pub host_code_no_record : holds 1 state ≡ false → code_bytes state samples octets ≡ record { answer = 2; left = (state, octets) }
    host_code_no_record e = host_code_2 (unheld_coder_broken state e)

    pub host_decode_no_record : (told : ℕ) → told ≤ 3 → holds 2 state ≡ false
        → decode_bytes state told octets samples ≡ record { answer = 2; left = (state, samples) }
    host_decode_no_record told l e = host_decode_2 told l (unheld_decoder_broken state e)
