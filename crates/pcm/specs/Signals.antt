-- The two steps of decoding on signals that stand as bytes, two a signal.
-- Assumes nothing.
use Rattle.std.specs.Prelude.{◌≡◌, Bool, cond, ◌||◌, not, List, ℕ, ◌*◌, ◌/◌, ◌≤◌, ltb, eqb, ℤ, length}
use Rattle.std.proofs.Common.{zero-le, arith, ltb-true, ltb-false}
use Rattle.laws.specs.Order.{by_test}
use Rattle.laws.specs.Outcome.{Outcome}
use Rattle.g722.specs.Quantise.{in_force}
use Rattle.g722.specs.Records.{good_decoder}
use Rattle.g722.specs.Steps.{heard, first_bad_pair, joined}
use Rattle.g722.specs.declared.Decoder.{Decoder}
use Rattle.g722.specs.Answers.{Decoded}
use Rattle.big_endian.specs.Bytes.{pcm_samples, pcm_bytes}
use Rattle.pcm.specs.Chunks.{not_stored, as_bytes, samples_within}

-- ---- the first step

-- n octets, at most 8000, with two bytes each of low and high signals
unfoldable pub unpaired_bytes : ℕ → ℕ → ℕ → Bool
unpaired_bytes n low high = ltb 8000 n || not (eqb low (2 * n)) || not (eqb high (2 * n))

-- a refused call gives back the record and both signals as they came
unfoldable pub not_heard_bytes : ℕ → Decoder → List ℕ → List ℕ → Outcome Decoded (List ℕ × List ℕ)
not_heard_bytes number d low high = record { answer = record { number = number; index = 0; limited = 0; next = d }; left = (low, high) }

-- the signals of a call as bytes
unfoldable pub both_as_bytes : Outcome Decoded (List ℤ × List ℤ) → Outcome Decoded (List ℕ × List ℕ)
both_as_bytes x = record { answer = x.answer; left = (pcm_bytes x.left.0, pcm_bytes x.left.1) }

-- 1, then 3, then 2, as a call of the first step has them
unfoldable pub hear_chunk : Decoder → ℕ → List ℕ → List ℕ → List ℕ → Outcome Decoded (List ℕ × List ℕ)
hear_chunk d told octets low high =
    cond (ltb 3 told) (not_heard_bytes 1 d low high)
    (cond (unpaired_bytes (length octets) (length low) (length high)) (not_heard_bytes 3 d low high)
    (cond (not (good_decoder d)) (not_heard_bytes 2 d low high)
    (both_as_bytes (heard (in_force told) d octets))))

-- ---- the second step

-- the same of n pairs, and four bytes of samples a pair
unfoldable pub unjoined_bytes : ℕ → ℕ → ℕ → ℕ → Bool
unjoined_bytes n low high samples = unpaired_bytes n low high || not (eqb samples (4 * n))

-- a pair of which one is out of range: the record and the samples as they came, and the pair's index
unfoldable pub bad_pair : ℕ → Decoder → List ℕ → Outcome Decoded (List ℕ)
bad_pair index d samples = record { answer = record { number = 4; index = index; limited = 0; next = d }; left = samples }

-- 2, then 4 with the index of the first bad pair, as a call of the second step has them
unfoldable pub join_signals : Decoder → List ℤ → List ℤ → List ℕ → Outcome Decoded (List ℕ)
join_signals d low high samples =
    cond (not (good_decoder d)) (not_stored 2 d samples)
    (cond (ltb (first_bad_pair low high) (length low)) (bad_pair (first_bad_pair low high) d samples)
    (as_bytes (joined d low high)))

-- before these 3: as many pairs as low signals, and of those none cut in two
unfoldable pub join_chunk : Decoder → List ℕ → List ℕ → List ℕ → Outcome Decoded (List ℕ)
join_chunk d low high samples =
    cond (unjoined_bytes (length low / 2) (length low) (length high) (length samples)) (not_stored 3 d samples)
    (join_signals d (pcm_samples low) (pcm_samples high) samples)

-- ---- no index beside a refused first step; that of a bad pair lies in the chunk

pub hear_index : (d : Decoder) (told : ℕ) (o l h : List ℕ) → (hear_chunk d told o l h).answer.index ≡ 0
unfolding hear_chunk not_heard_bytes both_as_bytes heard
hear_index d told o l h =
    by_test (ltb 3 told) (λ e. rw e) (λ e.
    by_test (unpaired_bytes (length o) (length l) (length h)) (λ f. rw (e, f)) (λ f.
    by_test (good_decoder d) (λ g. rw (e, f, g)) (λ g. rw (e, f, g))))

signals_index : (d : Decoder) (l h : List ℤ) (s : List ℕ) → (join_signals d l h s).answer.index ≤ length l
unfolding join_signals not_stored bad_pair as_bytes joined
signals_index d l h s =
    by_test (good_decoder d) (λ g. by_test (ltb (first_bad_pair l h) (length l))
    (λ e. rw (g, e) (omega (arith, ltb-true (first_bad_pair l h) (length l) e))) (λ e. rw (g, e) zero-le)) (λ g. rw g zero-le)

pub join_index : (d : Decoder) (l h s : List ℕ) → (join_chunk d l h s).answer.index ≤ 8000
unfolding join_chunk unjoined_bytes unpaired_bytes not_stored
join_index d l h s =
    by_test (ltb 8000 (length l / 2)) (λ e. rw e zero-le) (λ e.
    by_test (unjoined_bytes (length l / 2) (length l) (length h) (length s)) (λ f. rw f zero-le) (λ f. rw f
    (omega (arith, ltb-false 8000 (length l / 2) e, samples_within l, signals_index d (pcm_samples l) (pcm_samples h) s))))
