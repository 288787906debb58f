-- Where the stop of a product has no effect.
-- Assumes nothing.
use Rattle.std.specs.Prelude.{◌≡◌, ◌*◌, ◌^◌, ◌≤◌, ◌<◌, ℤ, nat_abs, ◌*ℤ◌}
use Rattle.std.proofs.Common.{◌∙◌, le_of_eq, le_trans, mul-le-mul, arith, lit<, SFits}
use Rattle.std.proofs.Math.IntN.{*ℤ_comm}
use Rattle.std.specs.Int.Signed.{mag, shr_z}
use Rattle.std.specs.Int.{w16}
use Rattle.laws.specs.Clamp.{clamp_id}
use Rattle.laws.specs.Order.{zarith, sizes, shr_read}
use Rattle.laws.specs.Size.{abs_mul, abs_mag, abs16, mag_abs}
use Rattle.g722.specs.Arithmetic.{mul}

-- only -32768 times -32768 is stopped
pub unstopped : (a b : ℤ) → mag a ≤ 32766 → SFits w16 b → mul a b ≡ shr_z (a *ℤ b) 32768
unfolding mul
unstopped a b h f =
    let z = a *ℤ b in
    let m : nat_abs a ≤ 32767 = omega (arith, abs_mag a) in
    let n : nat_abs z ≤ 32767 * 32768 = le_trans (le_of_eq (abs_mul a b)) (mul-le-mul m (abs16 f)) in
    let s = shr_read z 32768 (lit< tt) in
    clamp_id _ _ _ (omega (zarith, s, sizes z, mag_abs z)) (omega (zarith, s, sizes z, mag_abs z))

-- the order of the factors is free
pub mul_comm : (a b : ℤ) → mul a b ≡ mul b a
unfolding mul
mul_comm a b = rw (*ℤ_comm a b)

-- so a scale times an output is the product of the two, shifted
pub mul_plain : (det q : ℤ) → nat_abs q ≤ 32766 → mag det < 2 ^ 15 → mul det q ≡ shr_z (q *ℤ det) 32768
mul_plain det q h f = mul_comm det q ∙ unstopped q det (omega (arith, mag_abs q)) (record { sfits = f })
