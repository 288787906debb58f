-- Laws of a chunk's two calls, on plain values.
-- Assumes nothing.
use mathlib.Core.Path.{◌≡◌, refl}
use mathlib.Core.Bool.{false}
use mathlib.Core.List.{List}
use Prim.Native.Nat.{ℕ, ◌*◌, ◌≤◌, ◌<◌}
use native.Mathlib.Omega.{arith}
use borrow.Author.Tests.{lt-ltb, le-ltb, eq-eqb, ne_eqb}
use lib.Dec.{ltb, eqb}
use lib.IntN.{ℤ}
use lib.ListN.{length}
use Rattle.laws.specs.Order.{by_test}
use Rattle.laws.specs.Outcome.{Outcome}
use Rattle.g722.specs.Quantise.{in_force}
use Rattle.g722.specs.Records.{good_coder, good_decoder}
use Rattle.g722.specs.Coding.{misfit, not_coded, code_call}
use Rattle.g722.specs.Decoding.{not_decoded, decoded, decode_call}
use Rattle.g722.specs.declared.Coder.{Coder}
use Rattle.g722.specs.declared.Decoder.{Decoder}
use Rattle.g722.specs.Answers.{Decoded}
use Rattle.g722.specs.Refused.{number_of}
use Rattle.g722.specs.declared.Refusal.{Refusal}
use Rattle.g722.specs.declared.Refusal.TheVariants.{Mode, Record, Length, Sample, DataChannel, BlockSize, Check, Contents, Ports}
use Rattle.big_endian.specs.Bytes.{pcm_samples, samples_length}
use Rattle.pcm.specs.Chunks.{encode_chunk, not_stored, as_bytes, decode_chunk}

-- a refusal has a number
pub refuses : (r : Refusal) → number_of r ≡ 0 → ⊥
refuses Mode e = omega arith
refuses Record e = omega arith
refuses Length e = omega arith
refuses (Sample i) e = omega arith
refuses DataChannel e = omega arith
refuses BlockSize e = omega arith
refuses Check e = omega arith
refuses Contents e = omega arith
refuses Ports e = omega arith

-- ---- the coding call, case by case

module _ (c : Coder) (b o : List ℕ) where
  pub encode_long : 8000 < length o → encode_chunk c b o ≡ not_coded 3 0 c o
  unfolding encode_chunk code_call misfit
  encode_long h = by_test (eqb (length b) (4 * length o)) (λ e. simp (e, lt-ltb _ _ h)) (λ e. simp e)

  pub encode_uneven : (length b ≡ 4 * length o → ⊥) → encode_chunk c b o ≡ not_coded 3 0 c o
  unfolding encode_chunk
  encode_uneven k = simp (ne_eqb _ _ k)

  pub encode_even : length b ≡ 4 * length o → encode_chunk c b o ≡ code_call c (pcm_samples b) o
  unfolding encode_chunk
  encode_even k = simp (eq-eqb _ _ k)

  pub encode_broken : length o ≤ 8000 → length b ≡ 4 * length o → good_coder c ≡ false → encode_chunk c b o ≡ not_coded 2 0 c o
  unfolding encode_chunk code_call misfit
  encode_broken h k g =
      let pairs = samples_length (2 * length o) b (omega arith) in
      simp (eq-eqb _ _ k, le-ltb _ _ h, eq-eqb _ _ pairs, g)

-- ---- the decoding call, case by case

module _ (d : Decoder) (told : ℕ) (o b : List ℕ) where
  pub decode_untold : 3 < told → decode_chunk d told o b ≡ not_stored 1 d b
  unfolding decode_chunk
  decode_untold t = simp (lt-ltb _ _ t)

  pub decode_long : told ≤ 3 → 8000 < length o → decode_chunk d told o b ≡ not_stored 3 d b
  unfolding decode_chunk
  decode_long t h = simp (le-ltb _ _ t, lt-ltb _ _ h)

  pub decode_uneven : told ≤ 3 → length o ≤ 8000 → (length b ≡ 4 * length o → ⊥) → decode_chunk d told o b ≡ not_stored 3 d b
  unfolding decode_chunk
  decode_uneven t h k = simp (le-ltb _ _ t, le-ltb _ _ h, ne_eqb _ _ k)

  pub decode_broken : told ≤ 3 → length o ≤ 8000 → length b ≡ 4 * length o → good_decoder d ≡ false
      → decode_chunk d told o b ≡ not_stored 2 d b
  unfolding decode_chunk
  decode_broken t h k g = simp (le-ltb _ _ t, le-ltb _ _ h, eq-eqb _ _ k, g)

  -- beside the call on samples, where the lengths meet
  module _ (s : List ℤ) (h : length s ≡ 2 * length o) (k : length b ≡ 4 * length o) where
    beside : (P : Outcome Decoded (List ℤ) → Outcome Decoded (List ℕ) → Type 0)
        → P (not_decoded 1 d s) (not_stored 1 d b) → P (not_decoded 3 d s) (not_stored 3 d b) → P (not_decoded 2 d s) (not_stored 2 d b)
        → P (decoded (in_force told) d o) (as_bytes (decoded (in_force told) d o)) → P (decode_call d told o s) (decode_chunk d told o b)
    unfolding decode_call decode_chunk misfit
    beside P one three two done =
        rw (eq-eqb _ _ h, eq-eqb _ _ k)
        (by_test (ltb 3 told) (λ e. rw e one) (λ e. rw e
        (by_test (ltb 8000 (length o)) (λ f. rw f three) (λ f. rw f
        (by_test (good_decoder d) (λ g. rw g done) (λ g. rw g two))))))

    -- by the number that was answered
    module _ {r : Decoded} (e : r ≡ (decode_call d told o s).answer) where
      pub decode_done : r.number ≡ 0 → decode_chunk d told o b ≡ as_bytes (decode_call d told o s)
      unfolding not_decoded
      decode_done z =
          beside (λ x y. x.answer.number ≡ 0 → y ≡ as_bytes x)
          (λ n. absurd (omega arith)) (λ n. absurd (omega arith)) (λ n. absurd (omega arith)) (λ n. refl) (rw e at z)

      pub decode_refused : (r.number ≡ 0 → ⊥) → decode_chunk d told o b ≡ record { answer = (decode_call d told o s).answer; left = b }
      unfolding not_decoded not_stored decoded
      decode_refused z =
          beside (λ x y. (x.answer.number ≡ 0 → ⊥) → y ≡ record { answer = x.answer; left = b })
          (λ n. refl) (λ n. refl) (λ n. refl) (λ n. absurd (n refl)) (rw e at z)
