-- A number kept between two ends, and its laws.
-- Assumes nothing.
use Rattle.std.specs.Prelude.{◌≡◌, true, false, cond, ℤ, ◌≤ℤ◌}
use Rattle.std.specs.Int.Signed.{lt_z}
use Rattle.laws.specs.Order.{zarith, by_test}

unfoldable pub clamp : ℤ → ℤ → ℤ → ℤ
clamp lo hi z = cond (lt_z z lo) lo (cond (lt_z hi z) hi z)

module _ (lo hi z : ℤ) where
  -- by the tests
  pub clamp_low : lt_z z lo ≡ true → clamp lo hi z ≡ lo
  unfolding clamp
  clamp_low e = rw e

  pub clamp_high : lt_z z lo ≡ false → lt_z hi z ≡ true → clamp lo hi z ≡ hi
  unfolding clamp
  clamp_high e f = rw (e, f)

  pub clamp_mid : lt_z z lo ≡ false → lt_z hi z ≡ false → clamp lo hi z ≡ z
  unfolding clamp
  clamp_mid e f = rw (e, f)

  -- what is within stays as it is
  pub clamp_id : lo ≤ℤ z → z ≤ℤ hi → clamp lo hi z ≡ z
  clamp_id h k = clamp_mid (omega zarith) (omega zarith)

  -- what comes out is within
  pub clamp_within : lo ≤ℤ hi → (lo ≤ℤ clamp lo hi z) × (clamp lo hi z ≤ℤ hi)
  clamp_within h =
      by_test (lt_z z lo)
      (λ e. rw (clamp_low e) (omega zarith, h))
      (λ e. by_test (lt_z hi z) (λ f. rw (clamp_high e f) (h, omega zarith)) (λ f. rw (clamp_mid e f) (omega zarith, omega zarith)))

-- it keeps the order
pub clamp_mono : (lo hi : ℤ) → lo ≤ℤ hi → (x y : ℤ) → x ≤ℤ y → clamp lo hi x ≤ℤ clamp lo hi y
clamp_mono lo hi h x y l =
    by_test (lt_z x lo)
    (λ e. rw (clamp_low lo hi x e) (clamp_within lo hi y h).0)
    (λ e. by_test (lt_z hi x)
    (λ f. rw (clamp_high lo hi x e f, clamp_high lo hi y (omega zarith) (omega zarith)) (omega zarith))
    (λ f. rw (clamp_mid lo hi x e f) (by_test (lt_z hi y)
    (λ g. rw (clamp_high lo hi y (omega zarith) g) (omega zarith))
    (λ g. rw (clamp_mid lo hi y (omega zarith) g) l))))
