-- A turn of each loop: with i samples done, the next one leaves i + 1 done.
-- Assumes nothing.
use mathlib.Core.Path.{◌≡◌, refl, ap}
use mathlib.Core.List.{List, [], ◌∷◌}
use Prim.Native.Nat.{ℕ, zero, suc, ◌+◌, ◌-◌, ◌*◌, ◌<◌, ◌≤◌}
use native.Mathlib.Numerals.{add-one}
use native.Mathlib.Omega.{arith}
use lib.IntN.{ℤ, pos}
use lib.ListN.{length, get_or, set}
use borrow.Rule.Slice.PartMut.{put_mid}
use Rattle.std.specs.Simd.{first_chunks}
use Rattle.big_endian.specs.Bytes.{sample_of, pcm_samples, high_of, low_of, pcm_bytes, loaded, stored, two_more}

low_more : (i : ℕ) → 2 * suc i + 1 ≡ suc (suc (2 * i + 1))
low_more i = omega arith

-- the bytes of a pair
pub pair_at : (k i : ℕ) (b : List ℕ) (d : List ℕ) → i < k → 2 * k ≤ length b
    → get_or (first_chunks 2 k b) i d ≡ get_or b (2 * i) 0 ∷ get_or b (2 * i + 1) 0 ∷ []
pair_at zero i b d h l = absurd (omega arith)
pair_at (suc k) i [] d h l = absurd (omega arith)
pair_at (suc k) i (high ∷ []) d h l = absurd (omega arith)
pair_at (suc k) zero (high ∷ low ∷ b) d h l = refl
pair_at (suc k) (suc i) (high ∷ low ∷ b) d h l = rw (low_more i, two_more i) (pair_at k i b d (omega arith) (omega arith))

load_next : (i : ℕ) (b : List ℕ) (s : List ℤ) → 2 * i + 1 < length b → i < length s
    → set (loaded i b s).left i (sample_of (get_or b (2 * i) 0) (get_or b (2 * i + 1) 0)) ≡ (loaded (suc i) b s).left
unfolding loaded pcm_samples
load_next i [] s h k = absurd (omega arith)
load_next i (high ∷ []) s h k = absurd (omega arith)
load_next i (high ∷ low ∷ b) [] h k = absurd (omega arith)
load_next zero (high ∷ low ∷ b) (x ∷ s) h k = refl
load_next (suc i) (high ∷ low ∷ b) (x ∷ s) h k =
    rw (low_more i, two_more (suc i), two_more i)
    (ap (λ (l : List ℤ). sample_of high low ∷ l) (rw (two_more i) at (load_next i b s (omega arith) (omega arith))))

store_next : (i : ℕ) (s : List ℤ) (b : List ℕ) → i < length s → 2 * i + 1 < length b
    → put_mid (2 * i) 2 (stored i s b).left (high_of (get_or s i (pos 0)) ∷ low_of (get_or s i (pos 0)) ∷ []) ≡ (stored (suc i) s b).left
unfolding stored pcm_bytes
store_next i [] b h k = absurd (omega arith)
store_next i (x ∷ s) [] h k = absurd (omega arith)
store_next i (x ∷ s) (high ∷ []) h k = absurd (omega arith)
store_next zero (x ∷ s) (high ∷ low ∷ b) h k = refl
store_next (suc i) (x ∷ s) (high ∷ low ∷ b) h k =
    rw (two_more (suc i), two_more i)
    (ap (λ (l : List ℕ). high_of x ∷ low_of x ∷ l) (rw (two_more i) at (store_next i s b (omega arith) (omega arith))))

-- the same of what lies in memory and what the code's calls gave
module _ (i : ℕ) (b : List ℕ) (s : List ℤ) (h : 2 * i + 1 < length b) (k : i < length s) where
  pub load_turn : {now : List ℤ} {v : ℤ} → now ≡ (loaded i b s).left → v ≡ sample_of (get_or b (2 * i) 0) (get_or b (2 * i + 1) 0)
      → set now i v ≡ (loaded (i + 1) b s).left
  load_turn e f = rw (e, f, add-one i) (load_next i b s h k)

  pub store_turn : {now vs : List ℕ} → now ≡ (stored i s b).left
      → vs ≡ high_of (get_or s i (pos 0)) ∷ low_of (get_or s i (pos 0)) ∷ []
      → put_mid (2 * i) (2 * i + 2 - 2 * i) now vs ≡ (stored (i + 1) s b).left
  store_turn e f = let g : 2 * i + 2 - 2 * i ≡ 2 = omega arith in rw (e, f, g, add-one i) (store_next i s b k h)
