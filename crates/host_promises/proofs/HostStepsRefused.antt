-- A host's call of either step of decoding that is refused changes nothing of what was lent, the state too, and only number 4 has an index.
-- Assumes nothing.
use Rattle.std.proofs.Common.{ap, arith, ltb-false, lit<}
use Rattle.std.specs.Prelude.{List, not, ℕ, ◌*◌, ◌/◌, ◌<◌, ◌^◌, ltb, eqb, length}
use Rattle.laws.specs.Order.{by_test}
use Rattle.g722.specs.Records.{good_decoder}
use Rattle.g722.specs.Quantise.{in_force}
use Rattle.g722.specs.Decoding.{yl_of, yh_of}
use Rattle.g722.specs.Steps.{signals_of, low_next, high_next, yls_of, yhs_of, heard, joined_in_full, first_bad_pair, joined}
use Rattle.facts.specs.Lengths.{not_over_either}
use Rattle.facts.specs.Overload.{overloads_most}
use Rattle.facts.specs.Signals.{signals_length}
use Rattle.facts.specs.Steps.{joined_most}
use Rattle.g722.specs.declared.Decoder.{Decoder}
use Rattle.big_endian.specs.Bytes.{pcm_samples}
use Rattle.pcm.specs.Chunks.{not_stored, as_bytes, samples_within}
use Rattle.pcm.specs.Signals.{unpaired_bytes, not_heard_bytes, both_as_bytes, hear_chunk, hear_index}
use Rattle.pcm.specs.Signals.{unjoined_bytes, bad_pair, join_signals, join_chunk, join_index}
use Rattle.state.specs.Layout.{decoder_in}
use Rattle.host.specs.Answer.{number_in, index_in, limited_in}
use Rattle.host.specs.Calls.{after_decoding}
use Rattle.host_steps.specs.Calls.{hear_bytes, join_bytes}
use Rattle.promises.proofs.Refused.{Beside}
use Rattle.promises.proofs.RefusedLaws.{unchanged, indexed, accepted}
use Rattle.host_promises.proofs.Packed.{Parts, parts}
use Rattle.host_promises.proofs.HostRefused.{in_word, stayed}

-- a chunk of each step: what is so beside its number, which is of one byte

hear_said : (d : Decoder) (told : ℕ) (octets low high : List ℕ) → let x = hear_chunk d told octets low high in
    Beside x.answer.number x.answer.index x.answer.limited {X = Decoder × (List ℕ × List ℕ)} (x.answer.next, x.left)
    (d, (low, high))
    × (x.answer.number < 2 ^ 8)
unfolding hear_chunk not_heard_bytes both_as_bytes heard
hear_said d told octets low high =
    by_test (ltb 3 told) (λ e. rw e (unchanged, lit< tt)) (λ e.
    by_test (unpaired_bytes (length octets) (length low) (length high)) (λ f. rw (e, f) (unchanged, lit< tt)) (λ f.
    by_test (good_decoder d) (λ g. rw (e, f, g) (accepted, lit< tt)) (λ g. rw (e, f, g) (unchanged, lit< tt))))

join_said : (d : Decoder) (low high samples : List ℕ) → let x = join_chunk d low high samples in
    Beside x.answer.number x.answer.index x.answer.limited {X = Decoder × List ℕ} (x.answer.next, x.left) (d, samples)
    × (x.answer.number < 2 ^ 8)
unfolding join_chunk join_signals not_stored bad_pair as_bytes joined
join_said d low high samples =
    let x = pcm_samples low in
    let y = pcm_samples high in
    by_test (unjoined_bytes (length low / 2) (length low) (length high) (length samples)) (λ e. rw e (unchanged, lit< tt)) (λ e.
    by_test (good_decoder d) (λ f.
    by_test (ltb (first_bad_pair x y) (length x)) (λ g. rw (e, f, g) (indexed, lit< tt)) (λ g. rw (e, f, g) (accepted, lit< tt)))
    (λ f. rw (e, f) (unchanged, lit< tt)))

-- no step counts more than two of each octet or pair
hear_count : (d : Decoder) (told : ℕ) (octets low high : List ℕ) → (hear_chunk d told octets low high).answer.limited < 2 ^ 32
unfolding hear_chunk unpaired_bytes not_heard_bytes both_as_bytes heard yls_of yhs_of
hear_count d told octets low high =
    let n = length octets in
    let m = in_force told in
    by_test (ltb 3 told) (λ e. rw e (lit< tt)) (λ e.
    by_test (unpaired_bytes n (length low) (length high)) (λ f. rw (e, f) (lit< tt)) (λ f.
    by_test (good_decoder d)
    (λ g. rw (e, f, g) (omega (
      arith,
      not_over_either n (not (eqb (length low) (2 * n))) (not (eqb (length high) (2 * n))) f,
      overloads_most (signals_of (yl_of m) low_next d.low octets),
      signals_length (yl_of m) low_next d.low octets,
      overloads_most (signals_of yh_of high_next d.high octets),
      signals_length yh_of high_next d.high octets,
    )))
    (λ g. rw (e, f, g) (lit< tt))))

join_count : (d : Decoder) (low high samples : List ℕ) → (join_chunk d low high samples).answer.limited < 2 ^ 32
unfolding join_chunk unjoined_bytes unpaired_bytes join_signals not_stored bad_pair as_bytes joined
join_count d low high samples =
    let x = pcm_samples low in
    let y = pcm_samples high in
    let full = joined_in_full d.past x y in
    by_test (ltb 8000 (length low / 2)) (λ e. rw e (lit< tt)) (λ e.
    by_test (unjoined_bytes (length low / 2) (length low) (length high) (length samples)) (λ f. rw f (lit< tt)) (λ f. rw f (
    by_test (good_decoder d) (λ g.
    by_test (ltb (first_bad_pair x y) (length x)) (λ h. rw (g, h) (lit< tt)) (λ h. rw (g, h)
    (omega (arith, ltb-false 8000 (length low / 2) e, samples_within low, overloads_most full, joined_most d.past x y))))
    (λ g. rw g (lit< tt)))))

-- the number, the index and the count of each stand in its word
pub hear_parts : (state : List ℕ) (told : ℕ) (octets low high : List ℕ) → let x = hear_chunk (decoder_in state) told octets low high in
    Parts (hear_bytes state told octets low high).answer x.answer.number x.answer.index x.answer.limited
unfolding hear_bytes after_decoding
hear_parts state told octets low high =
    let d = decoder_in state in
    parts (record {
      number = (hear_said d told octets low high).1;
      index = omega (arith, hear_index d told octets low high);
      count = hear_count d told octets low high;
    })

pub join_parts : (state low high samples : List ℕ) → let x = join_chunk (decoder_in state) low high samples in
    Parts (join_bytes state low high samples).answer x.answer.number x.answer.index x.answer.limited
unfolding join_bytes after_decoding
join_parts state low high samples =
    let d = decoder_in state in
    parts (record {
      number = (join_said d low high samples).1;
      index = omega (arith, join_index d low high samples);
      count = join_count d low high samples;
    })

-- THE THEOREMS: the state and what else was lent, of each step

pub host_hear_beside : (state : List ℕ) (told : ℕ) (octets low high : List ℕ) → let x = hear_bytes state told octets low high in
    Beside (number_in x.answer) (index_in x.answer) (limited_in x.answer) {X = List ℕ × (List ℕ × List ℕ)} x.left
    (state, (low, high))
unfolding hear_bytes after_decoding
host_hear_beside state told octets low high =
    in_word (hear_parts state told octets low high) (hear_said (decoder_in state) told octets low high).0
    (λ n e. stayed _ _ state n (ap (λ p. p.1) e))

pub host_join_beside : (state low high samples : List ℕ) → let x = join_bytes state low high samples in
    Beside (number_in x.answer) (index_in x.answer) (limited_in x.answer) {X = List ℕ × List ℕ} x.left (state, samples)
unfolding join_bytes after_decoding
host_join_beside state low high samples =
    in_word (join_parts state low high samples) (join_said (decoder_in state) low high samples).0
    (λ n e. stayed _ _ state n (ap (λ p. p.1) e))
