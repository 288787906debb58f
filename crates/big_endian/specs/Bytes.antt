-- Samples as bytes and back: two bytes a sample, high byte first, two's complement.
-- Assumes nothing.
use Rattle.std.specs.Prelude.{◌≡◌, refl, cond, List, [], ◌∷◌, ◌++◌, ℕ, zero, suc, ◌+◌, ◌-◌, ◌*◌, ◌/◌, ◌%◌, ◌<◌, min, ltb, ℤ, pos, negsuc, ◌-ℤ◌, length, get_or, take, drop}
use Rattle.std.proofs.Common.{ap, ap₂, append-nil, arith, drop_of_length-le, take_all, lt-ltb, le-ltb}
use Rattle.std.specs.Int.Signed.{mag}
use Rattle.laws.specs.Order.{by_test}
use Rattle.laws.specs.Outcome.{Outcome}

-- the sample of a high and a low byte: their number, less 65536 from 32768 up
unfoldable pub sample_of : ℕ → ℕ → ℤ
sample_of high low = cond (ltb (256 * high + low) 32768) (pos (256 * high + low)) (pos (256 * high + low) -ℤ pos 65536)

-- pairs of bytes; an odd last byte is left out
unfoldable pub pcm_samples : List ℕ → List ℤ
pcm_samples [] = []
pcm_samples (high ∷ []) = []
pcm_samples (high ∷ low ∷ rest) = sample_of high low ∷ pcm_samples rest

-- a sample's 16 bits as a number from 0 up: a sample below 0 and 65536
unfoldable pub word_of : ℤ → ℕ
word_of (pos n) = n
word_of (negsuc n) = 65535 - n

unfoldable pub high_of : ℤ → ℕ
high_of z = word_of z / 256

unfoldable pub low_of : ℤ → ℕ
low_of z = word_of z % 256

unfoldable pub pcm_bytes : List ℤ → List ℕ
pcm_bytes [] = []
pcm_bytes (z ∷ rest) = high_of z ∷ low_of z ∷ pcm_bytes rest

-- a call reads or writes as many samples as both have room for
unfoldable pub loaded : ℕ → List ℕ → List ℤ → Outcome ℕ (List ℤ)
loaded n bytes samples = record { answer = n; left = pcm_samples (take (2 * n) bytes) ++ drop n samples }

unfoldable pub load_call : List ℕ → List ℤ → Outcome ℕ (List ℤ)
load_call bytes samples = loaded (min (length bytes / 2) (length samples)) bytes samples

unfoldable pub stored : ℕ → List ℤ → List ℕ → Outcome ℕ (List ℕ)
stored n samples bytes = record { answer = n; left = pcm_bytes (take n samples) ++ drop (2 * n) bytes }

unfoldable pub store_call : List ℤ → List ℕ → Outcome ℕ (List ℕ)
store_call samples bytes = stored (min (length samples) (length bytes / 2)) samples bytes

-- 1, 32767, -32768 and -2
pub worked : pcm_samples (0 ∷ 1 ∷ 127 ∷ 255 ∷ 128 ∷ 0 ∷ 255 ∷ 254 ∷ []) ≡ pos 1 ∷ pos 32767 ∷ negsuc 32767 ∷ negsuc 1 ∷ []
unfolding pcm_samples sample_of
worked = refl

-- ---- there and back

pub sample_of_bytes : (z : ℤ) → mag z < 32768 → sample_of (high_of z) (low_of z) ≡ z
unfolding sample_of high_of low_of word_of
sample_of_bytes (pos n) h =
    let e : 256 * (n / 256) + n % 256 ≡ n = omega arith in
    rw (e, lt-ltb n 32768 h)
sample_of_bytes (negsuc n) h =
    let e : 256 * ((65535 - n) / 256) + (65535 - n) % 256 ≡ 65535 - n = omega arith in
    let k : 65536 - suc (65535 - n) ≡ n = omega arith in
    rw (e, le-ltb (65535 - n) 32768 (omega arith), lt-ltb (65535 - n) 65536 (omega arith)) (ap negsuc k)

pub samples_of_bytes : (s : List ℤ) → ((k : ℕ) → k < length s → mag (get_or s k (pos 0)) < 32768) → pcm_samples (pcm_bytes s) ≡ s
unfolding pcm_samples pcm_bytes
samples_of_bytes [] h = refl
samples_of_bytes (z ∷ rest) h =
    ap₂ (λ (x : ℤ) (l : List ℤ). x ∷ l) (sample_of_bytes z (h zero (omega arith))) (samples_of_bytes rest (λ k l. h (suc k) (omega arith)))

word_of_sample : (high low : ℕ) → high < 256 → low < 256 → word_of (sample_of high low) ≡ 256 * high + low
unfolding sample_of word_of
word_of_sample high low h l =
    by_test (ltb (256 * high + low) 32768)
    (λ e. rw e)
    (λ e. rw (e, lt-ltb (256 * high + low) 65536 (omega arith)) (omega arith))

pub bytes_of_samples : (m : ℕ) (b : List ℕ) → length b ≡ 2 * m → ((k : ℕ) → k < length b → get_or b k 0 < 256) → pcm_bytes (pcm_samples b) ≡ b
unfolding pcm_samples pcm_bytes high_of low_of
bytes_of_samples m [] e h = refl
bytes_of_samples m (high ∷ []) e h = absurd (omega arith)
bytes_of_samples m (high ∷ low ∷ rest) e h =
    let a = h zero (omega arith) in
    let b = h (suc zero) (omega arith) in
    let k : (256 * high + low) / 256 ≡ high = omega arith in
    let l : (256 * high + low) % 256 ≡ low = omega arith in
    rw (word_of_sample high low a b, k, l)
    (ap (λ (r : List ℕ). high ∷ low ∷ r) (bytes_of_samples (m - 1) rest (omega arith) (λ i j. h (suc (suc i)) (omega arith))))

-- ---- where the lengths meet, a load reads all bytes and a store writes all

pub load_all : (b : List ℕ) (s : List ℤ) → length b ≡ 2 * length s → (load_call b s).left ≡ pcm_samples b
unfolding load_call loaded
load_all b s h =
    let e : min (length b / 2) (length s) ≡ length s = omega arith in
    rw (e, take_all (2 * length s) b (omega arith), drop_of_length-le s {i = length s} (omega arith)) (append-nil (pcm_samples b))

pub store_all : (s : List ℤ) (b : List ℕ) → length b ≡ 2 * length s → (store_call s b).left ≡ pcm_bytes s
unfolding store_call stored
store_all s b h =
    let e : min (length s) (length b / 2) ≡ length s = omega arith in
    rw (e, take_all (length s) s (omega arith), drop_of_length-le b {i = 2 * length s} (omega arith)) (append-nil (pcm_bytes s))

-- ---- in parts

pub two_more : (i : ℕ) → 2 * suc i ≡ suc (suc (2 * i))
two_more i = omega arith

pub samples_of_first : (n : ℕ) (b : List ℕ) → pcm_samples (take (2 * n) b) ≡ take n (pcm_samples b)
unfolding pcm_samples
samples_of_first zero b = refl
samples_of_first (suc n) [] = rw (two_more n) refl
samples_of_first (suc n) (high ∷ []) = rw (two_more n) refl
samples_of_first (suc n) (high ∷ low ∷ rest) =
    rw (two_more n) (ap (λ (l : List ℤ). sample_of high low ∷ l) (samples_of_first n rest))

pub samples_of_rest : (n : ℕ) (b : List ℕ) → pcm_samples (drop (2 * n) b) ≡ drop n (pcm_samples b)
unfolding pcm_samples
samples_of_rest zero b = refl
samples_of_rest (suc n) [] = rw (two_more n) refl
samples_of_rest (suc n) (high ∷ []) = rw (two_more n) refl
samples_of_rest (suc n) (high ∷ low ∷ rest) = rw (two_more n) (samples_of_rest n rest)

pub bytes_join : (s t : List ℤ) → pcm_bytes (s ++ t) ≡ pcm_bytes s ++ pcm_bytes t
unfolding pcm_bytes
bytes_join [] t = refl
bytes_join (z ∷ s) t = ap (λ (l : List ℕ). high_of z ∷ low_of z ∷ l) (bytes_join s t)

pub bytes_length : (s : List ℤ) → length (pcm_bytes s) ≡ 2 * length s
unfolding pcm_bytes
bytes_length [] = refl
bytes_length (z ∷ s) = let h = bytes_length s in omega arith

pub samples_length : (m : ℕ) (b : List ℕ) → length b ≡ 2 * m → length (pcm_samples b) ≡ m
unfolding pcm_samples
samples_length m [] e = omega arith
samples_length m (x ∷ []) e = absurd (omega arith)
samples_length zero (x ∷ y ∷ b) e = absurd (omega arith)
samples_length (suc m) (x ∷ y ∷ b) e = ap suc (samples_length m b (omega arith))
