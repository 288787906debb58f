-- Demand 3, its second half, of decoding's first step over bytes: cue bits reach neither signal.
-- Assumes nothing.
use Rattle.std.specs.Prelude.{◌≡◌, refl, List, ℕ, ◌+◌, ltb}
use Rattle.std.proofs.Math.Path.{sym, ap}
use Rattle.std.proofs.Common.{◌∙◌, arith}
use Rattle.std.proofs.Math.ListN.{length, length-map}
use Rattle.laws.specs.Order.{by_test}
use Rattle.g722.specs.Arithmetic.{overloads}
use Rattle.g722.specs.Quantise.{in_force}
use Rattle.g722.specs.Records.{good_decoder}
use Rattle.g722.specs.Steps.{heard}
use Rattle.g722.specs.declared.Decoder.{Decoder}
use Rattle.g722.specs.Answers.{Decoded}
use Rattle.big_endian.specs.Bytes.{pcm_bytes}
use Rattle.pcm.specs.Signals.{unpaired_bytes, not_heard_bytes, both_as_bytes, hear_chunk}
use Rattle.state.specs.Layout.{decoder_bytes, decoder_in}
use Rattle.host.specs.Answer.{packed, number_in}
use Rattle.host.specs.Calls.{state_after, after_decoding}
use Rattle.host_steps.specs.Calls.{hear_bytes}
use Rattle.promises.proofs.Unheard.{Alike}
use Rattle.promises.proofs.UnheardCall.{counted_same, heard_same}
use Rattle.host_promises.proofs.HostStepsRefused.{hear_parts}

module _ (told : ℕ) (os rs x y u v : List ℕ)
    (a : Alike (in_force told) os rs) (l : length x ≡ length u) (m : length y ≡ length v) where
  hear_chunk_unheard : (d : Decoder) → ((hear_chunk d told os x y).answer ≡ (hear_chunk d told rs u v).answer)
      × ((hear_chunk d told os x y).answer.number ≡ 0 → (hear_chunk d told os x y).left ≡ (hear_chunk d told rs u v).left)
  unfolding hear_chunk not_heard_bytes both_as_bytes heard
  hear_chunk_unheard d =
      let n : length os ≡ length rs = sym (length-map os _) ∙ ap length a ∙ length-map rs _ in
      let same = heard_same (in_force told) d os rs a in
      let full = counted_same (in_force told) d os rs a in
      by_test (ltb 3 told) (λ e. rw e (refl, λ h. absurd (omega (arith, h)))) (λ e.
      by_test (unpaired_bytes (length rs) (length u) (length v)) (λ f. rw (e, l, m, n, f) (refl, λ h. absurd (omega (arith, h)))) (λ f.
      by_test (good_decoder d)
      (λ g. rw (e, l, m, n, f, g) (
        λ i. record { number = 0; index = 0; limited = overloads (full.0 i) + overloads (full.1 i); next = same.2 i },
        λ h i. (pcm_bytes (same.0 i), pcm_bytes (same.1 i)),
      ))
      (λ g. rw (e, l, m, n, f, g) (refl, λ h. absurd (omega (arith, h))))))

  -- THE THEOREM: from equal state bytes, whatever they are, octets of which the same is heard give the same word and the same state
  -- bytes, and the same signal bytes if the call is accepted, whatever stood in the memory that was lent for them
  pub host_hear_unheard : (state : List ℕ) → let p = hear_bytes state told os x y in let q = hear_bytes state told rs u v in
      (p.answer ≡ q.answer) × (p.left.0 ≡ q.left.0) × (number_in p.answer ≡ 0 → p.left.1 ≡ q.left.1)
  unfolding hear_bytes after_decoding
  host_hear_unheard state =
      let same = hear_chunk_unheard (decoder_in state) in (
        ap (λ (r : Decoded). packed r.number r.index r.limited) same.0,
        ap (λ (r : Decoded). state_after r.number (decoder_bytes r.next) state) same.0,
        λ h. same.1 (sym (hear_parts state told os x y).number ∙ h),
      )
