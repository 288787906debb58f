-- A refused call changes nothing and counts nothing, and only number 4 has an index: of each call on a record and on data.
-- Assumes nothing.
use Rattle.std.specs.Prelude.{refl, ◌||◌, not, List, ℕ, ltb, eqb, ℤ, length}
use Rattle.std.proofs.Common.{ne_eqb}
use Rattle.laws.specs.Order.{by_test}
use Rattle.g722.specs.Records.{good_coder, good_decoder}
use Rattle.g722.specs.Coding.{first_bad, misfit, not_coded, coded, code_call}
use Rattle.g722.specs.Decoding.{not_decoded, decoded, decode_call}
use Rattle.g722.specs.Steps.{unpaired, not_heard, heard, hear_call, first_bad_pair, not_joined, joined, join_call}
use Rattle.g722.specs.Cue.{data_call, put_call, take_call}
use Rattle.g722.specs.declared.Coder.{Coder}
use Rattle.g722.specs.declared.Decoder.{Decoder}
use Rattle.promises.proofs.Refused.{Beside}

pub unchanged : {number : ℕ} {X : Type 0} {x : X} → Beside number 0 0 x x
unchanged = record { kept = λ h. refl; dark = λ h. refl; plain = λ h. refl }

pub indexed : {index : ℕ} {X : Type 0} {x : X} → Beside 4 index 0 x x
indexed = record { kept = λ h. refl; dark = λ h. refl; plain = λ h. absurd (h refl) }

pub accepted : {limited : ℕ} {X : Type 0} {back came : X} → Beside 0 0 limited back came
accepted = record { kept = λ h. absurd (h refl); dark = λ h. absurd (h refl); plain = λ h. refl }

-- THE THEOREMS: the record and what was lent, of each call

pub code_beside : (c : Coder) (s : List ℤ) (o : List ℕ) → let x = code_call c s o in
    Beside x.answer.number x.answer.index x.answer.limited {X = Coder × List ℕ} (x.answer.next, x.left) (c, o)
unfolding code_call not_coded coded
code_beside c s o =
    by_test (misfit (length s) (length o)) (λ e. rw e unchanged) (λ e.
    by_test (good_coder c) (λ f.
    by_test (ltb (first_bad s) (length s))
    (λ g. rw (e, f, g) indexed)
    (λ g. rw (e, f, g) accepted))
    (λ f. rw (e, f) unchanged))

pub decode_beside : (d : Decoder) (told : ℕ) (o : List ℕ) (s : List ℤ) → let x = decode_call d told o s in
    Beside x.answer.number x.answer.index x.answer.limited {X = Decoder × List ℤ} (x.answer.next, x.left) (d, s)
unfolding decode_call not_decoded decoded
decode_beside d told o s =
    by_test (ltb 3 told) (λ e. rw e unchanged) (λ e.
    by_test (misfit (length s) (length o)) (λ f. rw (e, f) unchanged) (λ f.
    by_test (good_decoder d) (λ g. rw (e, f, g) accepted) (λ g. rw (e, f, g) unchanged)))

-- each of the two steps of decoding: the record with both signals, and with the samples
pub hear_beside : (d : Decoder) (told : ℕ) (o : List ℕ) (low high : List ℤ) → let x = hear_call d told o low high in
    Beside x.answer.number x.answer.index x.answer.limited {X = Decoder × (List ℤ × List ℤ)} (x.answer.next, x.left)
    (d, (low, high))
unfolding hear_call not_heard heard
hear_beside d told o low high =
    by_test (ltb 3 told) (λ e. rw e unchanged) (λ e.
    by_test (unpaired (length o) (length low) (length high)) (λ f. rw (e, f) unchanged) (λ f.
    by_test (good_decoder d) (λ g. rw (e, f, g) accepted) (λ g. rw (e, f, g) unchanged)))

pub join_beside : (d : Decoder) (low high s : List ℤ) → let x = join_call d low high s in
    Beside x.answer.number x.answer.index x.answer.limited {X = Decoder × List ℤ} (x.answer.next, x.left) (d, s)
unfolding join_call not_joined joined
join_beside d low high s =
    by_test (misfit (length s) (length low) || not (eqb (length high) (length low))) (λ e. rw e unchanged) (λ e.
    by_test (good_decoder d) (λ f.
    by_test (ltb (first_bad_pair low high) (length low)) (λ g. rw (e, f, g) indexed) (λ g. rw (e, f, g) accepted))
    (λ f. rw (e, f) unchanged))

-- a data call has no record, and what it leaves alone is lent
data_beside : (number : ℕ) (old new : List ℕ) → Beside number 0 0 (data_call number old new).left old
unfolding data_call
data_beside number old new = record { kept = λ h. rw (ne_eqb number 0 h); dark = λ h. refl; plain = λ h. refl }

pub put_beside : (mode : ℕ) (octets bytes : List ℕ) → let x = put_call mode octets bytes in
    Beside x.answer.number x.answer.index 0 x.left octets
unfolding put_call data_call
put_beside mode octets bytes = data_beside _ octets _

pub take_beside : (mode : ℕ) (octets bytes : List ℕ) → let x = take_call mode octets bytes in
    Beside x.answer.number x.answer.index 0 x.left bytes
unfolding take_call data_call
take_beside mode octets bytes = data_beside _ bytes _
