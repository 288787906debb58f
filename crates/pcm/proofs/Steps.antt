-- Laws of the calls of the two steps on bytes, on plain values.
-- Assumes nothing.
use mathlib.Core.Path.{◌≡◌, refl, sym, ap, ◌∙◌}
use mathlib.Core.Bool.{true, false}
use mathlib.Core.List.{List}
use Prim.Native.Nat.{ℕ, ◌*◌, ◌/◌, ◌≤◌, ◌<◌}
use native.Mathlib.Omega.{arith}
use borrow.Author.Tests.{lt-ltb, le-ltb, ltb-true, ltb-false, eq-eqb, ne_eqb, eqb-true, eqb-false}
use lib.Dec.{ltb, eqb}
use lib.IntN.{ℤ}
use lib.ListN.{length}
use Rattle.laws.specs.Order.{no, by_test}
use Rattle.laws.specs.Outcome.{Outcome}
use Rattle.g722.specs.Quantise.{in_force}
use Rattle.g722.specs.Records.{good_decoder}
use Rattle.g722.specs.Coding.{misfit}
use Rattle.g722.specs.Steps.{unpaired, not_heard, heard, hear_call, first_bad_pair, not_joined, joined, join_call}
use Rattle.g722.specs.declared.Decoder.{Decoder}
use Rattle.g722.specs.Answers.{Decoded}
use Rattle.big_endian.specs.Bytes.{pcm_samples, pcm_bytes, samples_length}
use Rattle.pcm.specs.Chunks.{not_stored, as_bytes}
use Rattle.pcm.specs.Signals.{unpaired_bytes, not_heard_bytes, both_as_bytes, hear_chunk, unjoined_bytes, bad_pair, join_signals, join_chunk}

-- ---- lengths that do not fit, and those that do

module _ (n l h : ℕ) where
  pub too_many : 8000 < n → unpaired_bytes n l h ≡ true
  unfolding unpaired_bytes
  too_many m = simp (lt-ltb _ _ m)

  pub other_low : n ≤ 8000 → (l ≡ 2 * n → ⊥) → unpaired_bytes n l h ≡ true
  unfolding unpaired_bytes
  other_low m a = simp (le-ltb _ _ m, ne_eqb _ _ a)

  pub other_high : n ≤ 8000 → l ≡ 2 * n → (h ≡ 2 * n → ⊥) → unpaired_bytes n l h ≡ true
  unfolding unpaired_bytes
  other_high m a b = simp (le-ltb _ _ m, eq-eqb _ _ a, ne_eqb _ _ b)

  pub fits : unpaired_bytes n l h ≡ false → (n ≤ 8000) × (l ≡ 2 * n) × (h ≡ 2 * n)
  fits e =
      by_test (ltb 8000 n) (λ a. no (sym (too_many (ltb-true 8000 n a)) ∙ e)) (λ a.
      let m = ltb-false 8000 n a in
      by_test (eqb l (2 * n)) (λ b.
      by_test (eqb h (2 * n)) (λ c. (m, eqb-true _ _ b, eqb-true _ _ c))
      (λ c. no (sym (other_high m (eqb-true _ _ b) (eqb-false _ _ c)) ∙ e)))
      (λ b. no (sym (other_low m (eqb-false _ _ b)) ∙ e)))

-- ---- the first step, case by case

module _ (d : Decoder) (told : ℕ) (o l h : List ℕ) where
  pub hear_untold : 3 < told → hear_chunk d told o l h ≡ not_heard_bytes 1 d l h
  unfolding hear_chunk
  hear_untold t = simp (lt-ltb _ _ t)

  pub hear_unfit : told ≤ 3 → unpaired_bytes (length o) (length l) (length h) ≡ true → hear_chunk d told o l h ≡ not_heard_bytes 3 d l h
  unfolding hear_chunk
  hear_unfit t u = simp (le-ltb _ _ t, u)

  pub hear_broken : told ≤ 3 → unpaired_bytes (length o) (length l) (length h) ≡ false → good_decoder d ≡ false
      → hear_chunk d told o l h ≡ not_heard_bytes 2 d l h
  unfolding hear_chunk
  hear_broken t u g = simp (le-ltb _ _ t, u, g)

  -- beside the call on signals, where the lengths meet
  module _ (x y : List ℤ) (p : length x ≡ length o) (q : length y ≡ length o)
      (k : length l ≡ 2 * length o) (m : length h ≡ 2 * length o) where
    beside : (P : Outcome Decoded (List ℤ × List ℤ) → Outcome Decoded (List ℕ × List ℕ) → Type 0)
        → P (not_heard 1 d x y) (not_heard_bytes 1 d l h) → P (not_heard 3 d x y) (not_heard_bytes 3 d l h)
        → P (not_heard 2 d x y) (not_heard_bytes 2 d l h)
        → P (heard (in_force told) d o) (both_as_bytes (heard (in_force told) d o)) → P (hear_call d told o x y) (hear_chunk d told o l h)
    unfolding hear_call hear_chunk unpaired unpaired_bytes
    beside P one three two done =
        rw (eq-eqb _ _ p, eq-eqb _ _ q, eq-eqb _ _ k, eq-eqb _ _ m)
        (by_test (ltb 3 told) (λ e. rw e one) (λ e. rw e
        (by_test (ltb 8000 (length o)) (λ f. rw f three) (λ f. rw f
        (by_test (good_decoder d) (λ g. rw g done) (λ g. rw g two))))))

    -- by the number that was answered
    module _ {r : Decoded} (e : r ≡ (hear_call d told o x y).answer) where
      pub hear_done : r.number ≡ 0 → hear_chunk d told o l h ≡ both_as_bytes (hear_call d told o x y)
      unfolding not_heard
      hear_done z =
          beside (λ a b. a.answer.number ≡ 0 → b ≡ both_as_bytes a)
          (λ n. absurd (omega arith)) (λ n. absurd (omega arith)) (λ n. absurd (omega arith)) (λ n. refl) (rw e at z)

      pub hear_refused : (r.number ≡ 0 → ⊥) → hear_chunk d told o l h ≡ record { answer = (hear_call d told o x y).answer; left = (l, h) }
      unfolding not_heard not_heard_bytes heard
      hear_refused z =
          beside (λ a b. (a.answer.number ≡ 0 → ⊥) → b ≡ record { answer = a.answer; left = (l, h) })
          (λ n. refl) (λ n. refl) (λ n. refl) (λ n. absurd (n refl)) (rw e at z)

-- both signals of a call, written
pub both_stored : {l h : List ℕ} {x y : List ℤ} {p : List ℤ × List ℤ}
    → ◌≡◌ {A = List ℤ × List ℤ} (x, y) p → l ≡ pcm_bytes x → h ≡ pcm_bytes y
    → ◌≡◌ {A = List ℕ × List ℕ} (l, h) (pcm_bytes p.0, pcm_bytes p.1)
both_stored e f g = (λ i. (f i, g i)) ∙ ap (λ (p : List ℤ × List ℤ). (pcm_bytes p.0, pcm_bytes p.1)) e

-- ---- the second step, case by case

module _ (d : Decoder) (l h s : List ℕ) where
  pub join_unfit : unpaired_bytes (length l / 2) (length l) (length h) ≡ true → join_chunk d l h s ≡ not_stored 3 d s
  unfolding join_chunk unjoined_bytes
  join_unfit u = simp u

  module _ (u : unpaired_bytes (length l / 2) (length l) (length h) ≡ false) where
    pub join_uneven : (length s ≡ 4 * (length l / 2) → ⊥) → join_chunk d l h s ≡ not_stored 3 d s
    unfolding join_chunk unjoined_bytes
    join_uneven k = simp (u, ne_eqb _ _ k)

    pub join_broken : length s ≡ 4 * (length l / 2) → good_decoder d ≡ false → join_chunk d l h s ≡ not_stored 2 d s
    unfolding join_chunk unjoined_bytes join_signals
    join_broken k g = simp (u, eq-eqb _ _ k, g)

  -- beside the call on the signals that the bytes are, where the lengths meet
  module _ (n : ℕ) (z : List ℤ) (k : length l ≡ 2 * n) (m : length h ≡ 2 * n) (p : length s ≡ 4 * n) (q : length z ≡ 2 * n) where
    abbrev call : Outcome Decoded (List ℤ)
    call = join_call d (pcm_samples l) (pcm_samples h) z

    beside_join : (P : Outcome Decoded (List ℤ) → Outcome Decoded (List ℕ) → Type 0)
        → P (not_joined 3 0 d z) (not_stored 3 d s) → P (not_joined 2 0 d z) (not_stored 2 d s)
        → ((i : ℕ) → P (not_joined 4 i d z) (bad_pair i d s))
        → P (joined d (pcm_samples l) (pcm_samples h)) (as_bytes (joined d (pcm_samples l) (pcm_samples h))) → P call (join_chunk d l h s)
    unfolding join_call join_chunk join_signals misfit unjoined_bytes unpaired_bytes
    beside_join P three two four done =
        let half : length l / 2 ≡ n = omega arith in
        rw (half, samples_length n l k, samples_length n h m, eq-eqb _ _ k, eq-eqb _ _ m, eq-eqb _ _ p, eq-eqb _ _ q, eq-eqb n n refl)
        (by_test (ltb 8000 n) (λ e. rw e three) (λ e. rw e
        (by_test (good_decoder d) (λ g. rw g
        (by_test (ltb (first_bad_pair (pcm_samples l) (pcm_samples h)) n) (λ f. rw f (four _)) (λ f. rw f done))) (λ g. rw g two))))

    -- by the number that was answered
    module _ {r : Decoded} (e : r ≡ call.answer) where
      pub join_done : r.number ≡ 0 → join_chunk d l h s ≡ as_bytes call
      unfolding not_joined
      join_done t =
          beside_join (λ a b. a.answer.number ≡ 0 → b ≡ as_bytes a)
          (λ n. absurd (omega arith)) (λ n. absurd (omega arith)) (λ i n. absurd (omega arith)) (λ n. refl) (rw e at t)

      pub join_refused : (r.number ≡ 0 → ⊥) → join_chunk d l h s ≡ record { answer = call.answer; left = s }
      unfolding not_joined not_stored bad_pair joined
      join_refused t =
          beside_join (λ a b. (a.answer.number ≡ 0 → ⊥) → b ≡ record { answer = a.answer; left = s })
          (λ n. refl) (λ n. refl) (λ i n. refl) (λ n. absurd (n refl)) (rw e at t)
