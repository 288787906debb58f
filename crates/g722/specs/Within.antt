-- Laws of the tests `within` and `equal`.
-- Assumes nothing.
use Rattle.std.specs.Prelude.{◌≡◌, refl, Bool, true, false, T, ℤ, ◌≤ℤ◌}
use Rattle.std.proofs.Common.{sym, subst}
use Rattle.std.specs.Int.Signed.{le_z, le_z_yes, ≤ℤ_refl}
use Rattle.laws.specs.Both.{both, left_true, right_true}
use Rattle.laws.specs.Order.{zarith}
use Rattle.g722.specs.Arithmetic.{within, equal}

holds : (t : Bool) → T t → t ≡ true
holds true x = refl
holds false x = absurd x

le_true : {a b : ℤ} → a ≤ℤ b → le_z a b ≡ true
le_true {a} {b} h = holds (le_z a b) h.le

pub is_within : {lo hi z : ℤ} → lo ≤ℤ z → z ≤ℤ hi → within lo hi z ≡ true
unfolding within
is_within l h = both (le_true l) (le_true h)

pub within_ends : (lo hi z : ℤ) → within lo hi z ≡ true → (lo ≤ℤ z) × (z ≤ℤ hi)
unfolding within
within_ends lo hi z e = (
  le_z_yes (subst T (sym (left_true (le_z lo z) (le_z z hi) e)) tt),
  le_z_yes (subst T (sym (right_true (le_z lo z) (le_z z hi) e)) tt),
)

pub equal_refl : (z : ℤ) → equal z z ≡ true
unfolding equal
equal_refl z = is_within (≤ℤ_refl z) (≤ℤ_refl z)

pub equal_same : (a b : ℤ) → equal a b ≡ true → a ≡ b
unfolding equal
equal_same a b e = let w = within_ends a a b e in omega (zarith, w.0, w.1)
