-- What fits: eight times an output or a level, with its sign, and a product.
-- Assumes nothing.
use mathlib.Core.Path.{◌≡◌}
use mathlib.Core.Bool.{Bool, true, false, cond}
use Prim.Native.Nat.{ℕ, zero, suc, ◌*◌, ◌≤◌}
use native.Mathlib.Omega.{arith}
use lib.IntN.{ℤ, pos, ◌*ℤ◌}
use lib.Signed.{mag, shr_z, le_z_yes}
use mir.Syntax.{w16, w32}
use mir.Val.{SFits, to_z}
use mir.Facts.{to_z_pos}
use Rattle.laws.specs.Clamp.{clamp_within}
use Rattle.laws.specs.Order.{size_within}
use Rattle.laws.specs.Size.{product_fits}
use Rattle.g722.specs.Arithmetic.{neg, mul}

-- eight times an output or a level
module _ (q : ℕ) (h : q ≤ 4095) where
  pub eight_small : q * 8 ≤ 32766
  eight_small = omega arith

  pub eight_read : to_z w16 (q * 8) ≡ pos (q * 8)
  eight_read = to_z_pos w16 (omega arith)

-- a level's product fits 32 bits
pub level_product_fits : (q : ℕ) → q ≤ 4095 → {z : ℤ} → SFits w16 z → SFits w32 (pos q *ℤ z)
level_product_fits q h f = product_fits {a = pos q} (record { sfits = omega arith }) f

-- an output with either sign
pub signed_small : (t : Bool) (n : ℕ) → n ≤ 32766 → mag (cond t (neg n) (pos n)) ≤ 32766
signed_small true zero h = h
signed_small true (suc n) h = omega arith
signed_small false n h = h

pub small_fits : {z : ℤ} → mag z ≤ 32766 → SFits w16 z
small_fits h = record { sfits = omega arith }

-- a product fits 16 bits
pub mul_fits : (a b : ℤ) → SFits w16 (mul a b)
unfolding mul
mul_fits a b =
    let w = clamp_within (neg 32768) (pos 32767) (shr_z (a *ℤ b) 32768) (le_z_yes tt) in
    record { sfits = omega (arith, size_within 32767 (mul a b) w.0 w.1) }
