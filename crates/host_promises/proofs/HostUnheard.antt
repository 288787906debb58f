-- Demand 3, its second half, over bytes: cue bits are never heard. From equal state bytes, whatever they are, two streams cut into the
-- same calls with the same modes, which agree in what is heard of each octet, give the same answers, the same state bytes and the same
-- sample bytes, whatever stood in the memory that was lent for them. Bytes that hold no record are refused alike.
-- Assumes nothing.
use Rattle.std.specs.Prelude.{◌≡◌, refl, ◌||◌, List, ℕ, ◌*◌, ltb, eqb}
use Rattle.std.proofs.Common.{sym, ◌∙◌, arith}
use Rattle.std.proofs.Math.Path.{ap}
use Rattle.std.proofs.Math.Bool.{not}
use Rattle.std.proofs.Math.ListN.{length}
use Rattle.std.proofs.lemmas.List.{length-map}
use Rattle.laws.specs.Order.{by_test}
use Rattle.g722.specs.Arithmetic.{overloads}
use Rattle.g722.specs.Quantise.{in_force}
use Rattle.g722.specs.Records.{good_decoder}
use Rattle.g722.specs.Decoding.{decoded}
use Rattle.g722.specs.declared.Decoder.{Decoder}
use Rattle.g722.specs.Answers.{Decoded}
use Rattle.big_endian.specs.Bytes.{pcm_bytes}
use Rattle.pcm.specs.Chunks.{not_stored, as_bytes, decode_chunk}
use Rattle.state.specs.Layout.{decoder_bytes, decoder_in}
use Rattle.host.specs.Answer.{number_in, packed}
use Rattle.host.specs.Calls.{after_decoding, decode_bytes, state_after}
use Rattle.promises.proofs.Through.{through, answers}
use Rattle.promises.proofs.Unheard.{Alike}
use Rattle.promises.proofs.UnheardCall.{full_same, run_same}
use Rattle.promises.proofs.Alike.{Each, answers_alike, state_alike, lefts_alike}
use Rattle.host_promises.specs.Streams.{StoreInput}
use Rattle.host_promises.proofs.Packed.{decode_parts}
use Rattle.host_promises.proofs.HostCalls.{Returned, returned, host_decoding, host_heard}

-- ---- a call

module _ (d : Decoder) (told : ℕ) (os rs s t : List ℕ) (a : Alike (in_force told) os rs) (l : length s ≡ length t) where
  same_length : length os ≡ length rs
  same_length = sym (length-map os _) ∙ ap length a ∙ length-map rs _

  -- the same number, index, count and next record, and the same sample bytes if it is accepted
  chunk_unheard : ((decode_chunk d told os s).answer ≡ (decode_chunk d told rs t).answer)
      × ((decode_chunk d told os s).answer.number ≡ 0 → (decode_chunk d told os s).left ≡ (decode_chunk d told rs t).left)
  unfolding decode_chunk not_stored as_bytes decoded
  chunk_unheard =
      let m = same_length in
      by_test (ltb 3 told) (λ e. rw e (refl, λ h. absurd (omega (arith, h)))) (λ e.
      by_test (ltb 8000 (length rs) || not (eqb (length t) (4 * length rs)))
      (λ f. rw (e, l, m, f) (refl, λ h. absurd (omega (arith, h)))) (λ f.
      by_test (good_decoder d)
      (λ g. rw (e, l, m, f, g) (
        (λ i. record {
          number = 0;
          index = 0;
          limited = overloads (full_same (in_force told) d os rs a i);
          next = (run_same (in_force told) d os rs a).0 i;
        }),
        λ h. ap pcm_bytes (run_same (in_force told) d os rs a).1,
      ))
      (λ g. rw (e, l, m, f, g) (refl, λ h. absurd (omega (arith, h))))))

-- the word and the state that a decoded chunk gives
abbrev told_host : List ℕ → Decoded → Returned
told_host state a =
    record { word = packed a.number a.index a.limited; state = state_after a.number (decoder_bytes a.next) state }

-- THE THEOREM, of a host's call: the same word and the same state bytes, and the same sample bytes if it is accepted
pub host_call_unheard : (state : List ℕ) (told : ℕ) (os rs s t : List ℕ) → Alike (in_force told) os rs → length s ≡ length t
    → ((returned (decode_bytes state told os s)).answer ≡ (returned (decode_bytes state told rs t)).answer)
    × (number_in (decode_bytes state told os s).answer ≡ 0
    → (returned (decode_bytes state told os s)).left ≡ (returned (decode_bytes state told rs t)).left)
unfolding decode_bytes after_decoding
host_call_unheard state told os rs s t a l =
    let same = chunk_unheard (decoder_in state) told os rs s t a l in (
      ap (told_host state) same.0,
      λ h. same.1 (sym (decode_parts state told os s).number ∙ h),
    )

-- ---- calls

-- two calls with the same mode told and as much memory lent, which agree in what is heard of each octet
pub record AlikeInput (k j : StoreInput) : Type 0 where
  pub told : k.told ≡ j.told
  pub octets : Alike (in_force k.told) k.octets j.octets
  pub bytes : length k.bytes ≡ length j.bytes

alike_call : (state : List ℕ) (k j : StoreInput) → AlikeInput k j
    → ((host_decoding.call state k).answer ≡ (host_decoding.call state j).answer)
    × (number_in (host_decoding.call state k).answer.word ≡ 0 → (host_decoding.call state k).left ≡ (host_decoding.call state j).left)
alike_call state k j a =
    rw (← a.told) (host_call_unheard state k.told k.octets j.octets k.bytes j.bytes a.octets a.bytes)

-- THE THEOREMS, of any sequence of calls, also where the mode changes between calls and where some are refused
module _ (state : List ℕ) {ks js : List StoreInput} (a : Each AlikeInput ks js) where
  pub host_answers_unheard : answers host_decoding state ks ≡ answers host_decoding state js
  host_answers_unheard = answers_alike host_decoding AlikeInput alike_call state a

  pub host_state_unheard : through host_decoding state ks ≡ through host_decoding state js
  host_state_unheard = state_alike host_decoding AlikeInput alike_call state a

  pub host_samples_unheard : host_heard state ks ≡ host_heard state js
  host_samples_unheard = lefts_alike host_decoding AlikeInput alike_call state a
