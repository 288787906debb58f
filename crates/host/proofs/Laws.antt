-- Laws of a host's calls, on plain values.
-- Assumes nothing.
use mathlib.Core.Path.{◌≡◌, refl, sym, ap, ◌∙◌}
use mathlib.Core.Bool.{Bool, true, ◌||◌, not}
use mathlib.Core.List.{List}
use Prim.Native.Nat.{ℕ, ◌*◌, ◌≤◌, min}
use native.Mathlib.Omega.{arith}
use borrow.Author.Tests.{eq-eqb, ne_eqb}
use lib.Dec.{ltb, eqb}
use lib.ListN.{length}
use Rattle.laws.specs.Order.{no, by_test}
use Rattle.laws.specs.Outcome.{Outcome, Does}
use Rattle.g722.specs.Records.{good_decoder}
use Rattle.g722.specs.Coding.{misfit, not_coded, code_call}
use Rattle.g722.specs.Decoding.{decoded}
use Rattle.g722.specs.Answers.{Answer, Moved}
use Rattle.g722.specs.Refused.{number_of, index_of}
use Rattle.g722.specs.declared.Decoder.{Decoder}
use Rattle.g722.specs.declared.Refusal.{Refusal}
use Rattle.big_endian.specs.Bytes.{pcm_samples}
use Rattle.pcm.specs.Chunks.{encode_chunk, not_stored, as_bytes, decode_chunk}
use Rattle.pcm.proofs.Calls.{refuses}
use Rattle.state.specs.Layout.{holds, coder_in, decoder_in, write_call}
use Rattle.state.proofs.Reset.{unheld_coder_broken, unheld_decoder_broken, held_length}
use Rattle.host.specs.Answer.{packed}
use Rattle.host.specs.Calls.{state_after}

-- ---- a refused call's word, where its index has room

room : (i : ℕ) → i ≤ 16777215 → min i 16777215 ≡ i
room i h = omega arith

-- a data call's has none
pub told_data : (r : Refusal) {m : Moved} {word : ℕ} → ◌≡◌ {A = Moved} (record { number = number_of r; index = index_of r }) m → m.index ≡ 0
    → word ≡ packed (number_of r) (min (index_of r) 16777215) 0 → word ≡ packed m.number m.index 0
told_data r e none told =
    let i : index_of r ≤ 16777215 = omega (arith, none, ap (λ (m : Moved). m.index) e) in
    told ∙ ap (λ (i : ℕ). packed (number_of r) i 0) (room (index_of r) i) ∙ ap (λ (m : Moved). packed m.number m.index 0) e

-- ---- a call on a record, between reading and writing its state: one law for both records, whatever else is lent

module _ {R L : Type 0} (bytes : R → List ℕ) (state : List ℕ) (x : Outcome (Answer R) L) where
  abbrev said : Answer R → ℕ
  said a = packed a.number a.index a.limited

  abbrev hosted : Outcome ℕ (List ℕ × L)
  hosted =
      record {
        answer = said x.answer;
        left = (state_after x.answer.number (bytes x.answer.next) state, x.left);
      }

  -- an accepted call has its state written
  pub moves : {limited : ℕ} {next : R} {left : L} {word : ℕ} {wrote : Bool} {written : List ℕ}
      → Does x (record { number = 0; index = 0; limited = limited; next = next }) left → word ≡ packed 0 0 limited → length state ≡ 125
      → Does (write_call (bytes next) state) wrote written → Does hosted word (written, left)
  unfolding write_call
  moves {next = next} {written = written} did told l w =
      let wrote : written ≡ bytes next = w.left ∙ simp (eq-eqb _ _ l) in
      let n : x.answer.number ≡ 0 = sym (ap (λ (a : Answer R). a.number) did.answer) in
      record {
        answer = told ∙ ap said did.answer;
        left = (λ i. ((wrote ∙ ap (λ (a : Answer R). bytes a.next) did.answer) i, did.left i)) ∙ rw n refl;
      }

  -- a refused one leaves it
  pub stays : (r : Refusal) {next : R} {left : L} {word : ℕ}
      → Does x (record { number = number_of r; index = index_of r; limited = 0; next = next }) left
      → word ≡ packed (number_of r) (min (index_of r) 16777215) 0 → x.answer.index ≤ 16777215 → Does hosted word (state, left)
  stays r did told small =
      let n : x.answer.number ≡ 0 → ⊥ = λ e. refuses r (ap (λ (a : Answer R). a.number) did.answer ∙ e) in
      let i : index_of r ≤ 16777215 = omega (arith, small, ap (λ (a : Answer R). a.index) did.answer) in
      record {
        answer = told ∙ ap (λ (i : ℕ). packed (number_of r) i 0) (room (index_of r) i) ∙ ap said did.answer;
        left = (λ i. (state, did.left i)) ∙ rw (ne_eqb _ _ n) refl;
      }

-- ---- an accepted call was handed the bytes of a state

pub coder_held : (s b o : List ℕ) → (encode_chunk (coder_in s) b o).answer.number ≡ 0 → length s ≡ 125
unfolding encode_chunk code_call not_coded
coder_held s b o z =
    by_test (holds 1 s) (held_length 1 s) (λ e. absurd (
    let g = unheld_coder_broken s e in
    by_test (eqb (length b) (4 * length o))
    (λ f. by_test (misfit (length (pcm_samples b)) (length o))
    (λ h. let k : ◌≡◌ {A = ℕ} 3 0 = rw (f, h) at z in omega arith)
    (λ h. let k : ◌≡◌ {A = ℕ} 2 0 = rw (f, h, g) at z in omega arith))
    (λ f. let k : ◌≡◌ {A = ℕ} 3 0 = rw f at z in omega arith)))

pub good_held : (s : List ℕ) → good_decoder (decoder_in s) ≡ true → length s ≡ 125
good_held s g = by_test (holds 2 s) (held_length 2 s) (λ e. no (sym g ∙ unheld_decoder_broken s e))

pub decoder_held : (s : List ℕ) (told : ℕ) (o b : List ℕ) → (decode_chunk (decoder_in s) told o b).answer.number ≡ 0 → length s ≡ 125
unfolding decode_chunk not_stored
decoder_held s told o b z =
    good_held s (by_test (good_decoder (decoder_in s)) (λ g. g) (λ g. absurd (
    by_test (ltb 3 told)
    (λ f. let k : ◌≡◌ {A = ℕ} 1 0 = rw f at z in omega arith)
    (λ f. by_test (ltb 8000 (length o) || not (eqb (length b) (4 * length o)))
    (λ h. let k : ◌≡◌ {A = ℕ} 3 0 = rw (f, h) at z in omega arith)
    (λ h. let k : ◌≡◌ {A = ℕ} 2 0 = rw (f, h, g) at z in omega arith)))))

-- a decoding call has no index
pub index_none : (d : Decoder) (told : ℕ) (o b : List ℕ) → (decode_chunk d told o b).answer.index ≡ 0
unfolding decode_chunk not_stored as_bytes decoded
index_none d told o b =
    by_test (ltb 3 told) (λ e. rw e) (λ e.
    by_test (ltb 8000 (length o) || not (eqb (length b) (4 * length o))) (λ f. rw (e, f)) (λ f.
    by_test (good_decoder d) (λ g. rw (e, f, g)) (λ g. rw (e, f, g))))
