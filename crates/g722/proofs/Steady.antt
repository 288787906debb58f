-- Sum 13: after 24 equal samples c, XL is c and XH is 0, for every c in range.
-- Assumes nothing.
use Rattle.std.specs.Prelude.{◌≡◌, List, ℕ, zero, suc, ◌+◌, ◌-◌, ◌*◌, ℤ, pos, negsuc, ◌+ℤ◌, ◌*ℤ◌, replicate, ◌≤ℤ◌}
use Rattle.std.proofs.Common.{sym, ap, ap₂, ◌∙◌, arith}
use Rattle.std.proofs.Math.IntN.{zero-*ℤ, +ℤ_invr}
use Rattle.std.proofs.Math.ListN.{get_or-replicate}
use Rattle.laws.specs.Clamp.{clamp, clamp_id}
use Rattle.laws.specs.Products.{times_sum}
use Rattle.g722.specs.Arithmetic.{neg, shr, limit}
use Rattle.g722.specs.Mirror.{sum, coefficient, xin, accuma, accumb, lowt, hight}
use Rattle.g722.specs.Checks.{even_sum, odd_sum}

abbrev pub steady : ℤ → List ℤ
steady c = replicate 24 c

-- a sum of multiples of c is the multiple of the sum
sum_times : (f g : ℕ → ℤ) (c : ℤ) → ((i : ℕ) → g i ≡ f i *ℤ c) → (n : ℕ) → sum g n ≡ sum f n *ℤ c
unfolding sum
sum_times f g c e zero = sym (zero-*ℤ c)
sum_times f g c e (suc n) = ap₂ ◌+ℤ◌ (sum_times f g c e n) (e n) ∙ sym (times_sum (sum f n) (f n) c)

module _ (c : ℤ) where
  steady_at : (i : ℕ) → xin (steady c) i ≡ c
  unfolding xin
  steady_at i = get_or-replicate 24 (23 - i) c (pos 0) (omega arith)

  phase : (f : ℕ → ℕ) → sum (λ (i : ℕ). coefficient (f i)) 12 ≡ pos 4096
      → sum (λ (i : ℕ). coefficient (f i) *ℤ xin (steady c) (f i)) 12 ≡ pos 4096 *ℤ c
  phase f e =
      sum_times (λ i. coefficient (f i)) (λ i. coefficient (f i) *ℤ xin (steady c) (f i)) c
      (λ i. ap (λ (x : ℤ). coefficient (f i) *ℤ x) (steady_at (f i))) 12
      ∙ ap (λ (s : ℤ). s *ℤ c) e

  steady_a : accuma (steady c) ≡ pos 4096 *ℤ c
  unfolding accuma
  steady_a = phase (λ i. 2 * i) even_sum

  steady_b : accumb (steady c) ≡ pos 4096 *ℤ c
  unfolding accumb
  steady_b = phase (λ i. 2 * i + 1) odd_sum

halved : (c : ℤ) → shr (pos 4096 *ℤ c +ℤ pos 4096 *ℤ c) 13 ≡ c
halved (pos n) = ap pos (omega arith)
halved (negsuc n) = let e : 4096 * suc n ≡ suc (4096 * n + 4095) = omega arith in rw e (ap negsuc (omega arith))

pub steady_low : (c : ℤ) → neg 16384 ≤ℤ c → c ≤ℤ pos 16383 → limit (lowt (steady c)) ≡ c
unfolding lowt limit
steady_low c l h = rw (steady_a c, steady_b c, halved c) (clamp_id (neg 16384) (pos 16383) c l h)

pub steady_high : (c : ℤ) → limit (hight (steady c)) ≡ pos 0
unfolding hight limit clamp
steady_high c = rw (steady_a c, steady_b c, +ℤ_invr (pos 4096 *ℤ c))
