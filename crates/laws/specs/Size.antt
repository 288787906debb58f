-- Sizes of sums and products, by `nat_abs`, which omega takes as an unknown; and what fits a width.
-- Assumes nothing.
use Rattle.std.specs.Prelude.{◌≡◌, refl, false, ℕ, zero, suc, ◌+◌, ◌*◌, ◌^◌, ◌≤◌, ◌<◌, ltb, ℤ, pos, negsuc, neg_ℤ, nat_abs, ◌+ℤ◌, ◌-ℤ◌, ◌*ℤ◌}
use Rattle.std.proofs.Common.{le_of_eq, le_trans, lt_of_le_of_lt, mul-le-mul, arith, lit<, ltb-true, ltb-false}
use Rattle.std.proofs.Math.IntN.{sub_ℕ}
use Rattle.std.specs.Int.Signed.{mag, mag_shr, lt_z, shr_z}
use Rattle.std.specs.Int.{Width, w16, w32}
use mir.Val.{SFits, hbits}
use mir.ValLaws.{sfits_le}
use Rattle.laws.specs.Order.{by_test, no}

-- ---- nat_abs

pub mag_abs : (z : ℤ) → mag z ≤ nat_abs z
mag_abs (pos n) = omega arith
mag_abs (negsuc n) = omega arith

pub abs_mag : (z : ℤ) → nat_abs z ≤ mag z + 1
abs_mag (pos n) = omega arith
abs_mag (negsuc n) = omega arith

pub abs_neg : (z : ℤ) → nat_abs (neg_ℤ z) ≡ nat_abs z
abs_neg (pos zero) = refl
abs_neg (pos (suc n)) = refl
abs_neg (negsuc n) = refl

abs-subℕ : (a b : ℕ) → nat_abs (sub_ℕ a b) ≤ a + b
abs-subℕ a b = by_test (ltb a b) (λ e. let h = ltb-true a b e in rw e (omega arith)) (λ e. rw e (omega arith))

pub abs_add : (a b : ℤ) → nat_abs (a +ℤ b) ≤ nat_abs a + nat_abs b
abs_add (pos a) (pos b) = omega arith
abs_add (pos a) (negsuc b) = abs-subℕ a (suc b)
abs_add (negsuc a) (pos b) = omega (arith, abs-subℕ b (suc a))
abs_add (negsuc a) (negsuc b) = omega arith

pub abs_sub : (a b : ℤ) → nat_abs (a -ℤ b) ≤ nat_abs a + nat_abs b
abs_sub a b = omega (arith, abs_add a (neg_ℤ b), abs_neg b)

pub abs_mul : (a b : ℤ) → nat_abs (a *ℤ b) ≡ nat_abs a * nat_abs b
abs_mul (pos a) (pos b) = refl
abs_mul (pos a) (negsuc b) = abs_neg (pos (a * suc b))
abs_mul (negsuc a) (pos b) = abs_neg (pos (suc a * b))
abs_mul (negsuc a) (negsuc b) = refl

-- ---- what fits

pub fits_abs : {w : Width} {z : ℤ} → nat_abs z < 2 ^ hbits w → SFits w z
fits_abs {w} {z} h = record { sfits = omega (arith, mag_abs z) }

pub abs16 : {z : ℤ} → SFits w16 z → nat_abs z ≤ 32768
abs16 {z} f = omega (arith, abs_mag z, f.sfits)

between : (lo hi z : ℤ) {n : ℕ} → mag lo < n → mag hi < n → lt_z z lo ≡ false → lt_z hi z ≡ false → mag z < n
between lo (pos h) (pos m) f g e k = omega (arith, ltb-false h m k)
between lo (negsuc h) (pos m) f g e k = no k
between (pos l) hi (negsuc m) f g e k = no e
between (negsuc l) hi (negsuc m) f g e k = omega (arith, ltb-false l m e)

-- what lies between two numbers that fit
pub fits_between : {w : Width} {lo hi z : ℤ} → SFits w lo → SFits w hi → lt_z z lo ≡ false → lt_z hi z ≡ false → SFits w z
fits_between {w} {lo} {hi} {z} f g e k = record { sfits = between lo hi z f.sfits g.sfits e k }

-- a sum, a difference and a product of two numbers of 16 bits fit 32
module _ {a b : ℤ} (f : SFits w16 a) (g : SFits w16 b) where
  pub sum_fits : SFits w32 (a +ℤ b)
  sum_fits = fits_abs (omega (arith, abs_add a b, abs16 f, abs16 g))

  pub difference_fits : SFits w32 (a -ℤ b)
  difference_fits = fits_abs (omega (arith, abs_sub a b, abs16 f, abs16 g))

  pub product_fits : SFits w32 (a *ℤ b)
  product_fits = fits_abs (lt_of_le_of_lt (le_trans (le_of_eq (abs_mul a b)) (mul-le-mul (abs16 f) (abs16 g))) (lit< tt))

pub shr_fits : {w : Width} {z : ℤ} (m : ℕ) → SFits w z → SFits w (shr_z z m)
shr_fits {w} {z} m f = sfits_le (mag_shr z m) f
