-- The sign of a number as 1 or -1, and products with it.
-- Assumes nothing.
use mathlib.Core.Path.{◌≡◌, ap}
use mathlib.Core.Bool.{Bool, true, false, cond}
use Prim.Native.Nat.{ℕ, suc, ◌*◌, ◌≤◌}
use native.Mathlib.Omega.{arith}
use lib.IntN.{ℤ, pos, negsuc, neg_ℤ, nat_abs, ◌*ℤ◌}
use mir.Syntax.{w16}
use mir.Val.{SFits}
use Rattle.laws.specs.Size.{fits_abs, abs_mul}

one : (g : ℤ) → pos 1 *ℤ g ≡ g
one (pos n) = let e : 1 * n ≡ n = omega arith in ap pos e
one (negsuc n) = let e : 1 * suc n ≡ suc n = omega arith in ap (λ (k : ℕ). neg_ℤ (pos k)) e

less : (g : ℤ) → negsuc 0 *ℤ g ≡ neg_ℤ g
less (pos n) = let e : 1 * n ≡ n = omega arith in ap (λ (k : ℕ). neg_ℤ (pos k)) e
less (negsuc n) = let e : 1 * suc n ≡ suc n = omega arith in ap pos e

pub sided : (t : Bool) (g : ℤ) → cond t (negsuc 0) (pos 1) *ℤ g ≡ cond t (neg_ℤ g) g
sided true g = less g
sided false g = one g

pub sided_fits : (t : Bool) (g : ℤ) → nat_abs g ≤ 128 → SFits w16 (cond t (negsuc 0) (pos 1) *ℤ g)
sided_fits true g h = fits_abs (omega (arith, abs_mul (negsuc 0) g))
sided_fits false g h = fits_abs (omega (arith, abs_mul (pos 1) g))
