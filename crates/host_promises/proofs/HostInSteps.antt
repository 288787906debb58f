-- Decoding in two steps for a host that keeps bytes. A decoding call that is not refused is the first step and then the second one, over
-- the state bytes and the signal bytes that the first leaves.
-- Assumes nothing.
use Rattle.std.specs.Prelude.{◌≡◌, true, false, List, ℕ, ◌*◌, ltb, eqb}
use Rattle.std.proofs.Math.Path.{refl, sym, ap}
use Rattle.std.proofs.Common.{◌∙◌}
use borrow.Author.Tests.{eq-eqb, eqb-true}
use Rattle.std.proofs.Math.ListN.{length}
use Rattle.laws.specs.Order.{by_test, no}
use Rattle.g722.specs.Quantise.{in_force}
use Rattle.g722.specs.Records.{good_decoder}
use Rattle.g722.specs.Decoding.{decoded}
use Rattle.g722.specs.Steps.{heard_after, heard}
use Rattle.g722.specs.declared.Decoder.{Decoder}
use Rattle.pcm.specs.Chunks.{not_stored, as_bytes, decode_chunk}
use Rattle.pcm.specs.Signals.{unpaired_bytes, not_heard_bytes, both_as_bytes, hear_chunk}
use Rattle.state.specs.Layout.{decoder_in}
use Rattle.state.proofs.Round.{Holds, decoder_back, decoder_in_fits}
use Rattle.host.specs.Answer.{number_in}
use Rattle.host.specs.Calls.{after_decoding, decode_bytes}
use Rattle.host_steps.specs.Calls.{hear_bytes, join_bytes}
use Rattle.host_promises.specs.HostSteps.{host_two_steps}
use Rattle.host_promises.proofs.Packed.{decode_parts}
use Rattle.host_promises.proofs.HostStepsRefused.{hear_parts}
use Rattle.host_promises.proofs.HostStepsLeft.{heard_fits}
use Rattle.host_promises.proofs.HostSteps.{joins_heard}

-- the tests that an accepted chunk has passed
record Passed (d : Decoder) (told : ℕ) (o s : List ℕ) : Type 0 where
  mode : ltb 3 told ≡ false
  few : ltb 8000 (length o) ≡ false
  four : length s ≡ 4 * length o
  sound : good_decoder d ≡ true

passed : (d : Decoder) (told : ℕ) (o s : List ℕ) → (decode_chunk d told o s).answer.number ≡ 0 → Passed d told o s
unfolding decode_chunk not_stored
passed d told o s h =
    let e : eqb (decode_chunk d told o s).answer.number 0 ≡ true = eq-eqb _ _ h in
    by_test (ltb 3 told) (λ a. no (sym (rw a at e))) (λ a.
    by_test (ltb 8000 (length o)) (λ b. no (sym (rw (a, b) at e))) (λ b.
    by_test (eqb (length s) (4 * length o)) (λ c.
    by_test (good_decoder d) (λ g. record { mode = a; few = b; four = eqb-true _ _ c; sound = g })
    (λ g. no (sym (rw (a, b, c, g) at e))))
    (λ c. no (sym (rw (a, b, c) at e)))))

module _ (d : Decoder) (told : ℕ) (o s : List ℕ) (p : Passed d told o s) where
  decoded_chunk : decode_chunk d told o s ≡ as_bytes (decoded (in_force told) d o)
  unfolding decode_chunk
  decoded_chunk = rw (p.mode, p.few, p.four, eq-eqb (4 * length o) (4 * length o) refl, p.sound)

  hears_too : (low high : List ℕ) → length low ≡ 2 * length o → length high ≡ 2 * length o
      → hear_chunk d told o low high ≡ both_as_bytes (heard (in_force told) d o)
  unfolding hear_chunk unpaired_bytes
  hears_too low high l m = rw (p.mode, p.few, l, m, eq-eqb (2 * length o) (2 * length o) refl, p.sound)

-- the first step is refused with the word that decoding is, if as many sample bytes are lent as decoding asks for
pub host_refused_alike : (state : List ℕ) (told : ℕ) (octets samples low high : List ℕ) → length samples ≡ 4 * length octets
    → length low ≡ 2 * length octets → length high ≡ 2 * length octets
    → (number_in (decode_bytes state told octets samples).answer ≡ 0 → ⊥)
    → (hear_bytes state told octets low high).answer ≡ (decode_bytes state told octets samples).answer
unfolding hear_bytes decode_bytes after_decoding hear_chunk not_heard_bytes unpaired_bytes decode_chunk not_stored both_as_bytes as_bytes heard decoded
host_refused_alike state told octets samples low high e l m r =
    let n = length octets in
    let d = decoder_in state in
    let done : ltb 3 told ≡ false → ltb 8000 n ≡ false → good_decoder d ≡ true → (decode_chunk d told octets samples).answer.number ≡ 0 =
    λ a b g. rw (a, e, eq-eqb (4 * n) (4 * n) refl, b, g) refl in
    rw (e, l, m, eq-eqb (2 * n) (2 * n) refl, eq-eqb (4 * n) (4 * n) refl)
    (by_test (ltb 3 told) (λ a. rw a) (λ a.
    by_test (ltb 8000 n) (λ b. rw (a, b)) (λ b.
    by_test (good_decoder d) (λ g. absurd (r ((decode_parts state told octets samples).number ∙ done a b g))) (λ g. rw (a, b, g)))))

-- of bytes that hold a record, with room for the signals of each octet
module _ (state : List ℕ) (held : Holds 2 state) (told : ℕ) (octets samples low high : List ℕ)
    (l : length low ≡ 2 * length octets) (m : length high ≡ 2 * length octets)
    (h : number_in (decode_bytes state told octets samples).answer ≡ 0) where
  tests : Passed (decoder_in state) told octets samples
  tests = passed (decoder_in state) told octets samples (sym (decode_parts state told octets samples).number ∙ h)

  pub host_first_accepted : number_in (hear_bytes state told octets low high).answer ≡ 0
  unfolding both_as_bytes heard
  host_first_accepted =
      (hear_parts state told octets low high).number
      ∙ ap (λ x. x.answer.number) (hears_too (decoder_in state) told octets samples tests low high l m)

  -- THE THEOREM: the word, the state bytes and the sample bytes of a decoding call that is not refused are those of the two steps
  pub host_in_two_steps : decode_bytes state told octets samples ≡ host_two_steps state told octets low high samples
  unfolding hear_bytes join_bytes decode_bytes after_decoding both_as_bytes as_bytes heard decoded
  host_in_two_steps =
      let d = decoder_in state in
      let back = decoder_back (heard_after d octets) (heard_fits d octets (decoder_in_fits state held)) in
      let first = hears_too d told octets samples tests low high l m in
      let second = joins_heard (in_force told) d octets samples tests.few tests.four tests.sound in
      rw (decoded_chunk d told octets samples tests, first, back, second)
