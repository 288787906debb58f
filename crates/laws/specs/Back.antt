-- A signed number that lies in a local is bits, and every read of z is `to_z w (of_z w z)`: it is z, since z fits.
--     to_z-of_z c.ranges.x                          a parameter
--     got16 c.before.clamp                          a call's result, from the call's record, where no argument is a record
--     back16 z h                                    an element, a field or any call's result, with its bound
-- Assumes nothing.
use Rattle.std.specs.Prelude.{◌≡◌, List, ℕ, ◌<◌, ◌^◌, ℤ}
use Rattle.std.proofs.Common.{◌∙◌, SFits, to_z, of_z, to_z-of_z}
use Rattle.std.specs.Int.Signed.{mag}
use Rattle.std.specs.Int.{w16, w32}
use Rattle.std.proofs.Math.Facts.{sfits_widen}
use borrow.Author.Called.{Called}
use borrow.Fn.Kinds.{ParamKind, Out, r_s_num}
use borrow.Fn.Args.{ArgsT}
use borrow.Table.Row.{Cx}
use borrow.Table.Typed.{Mo}

pub back16 : (z : ℤ) → mag z < 2 ^ 15 → to_z w16 (of_z w16 z) ≡ z
back16 z h = to_z-of_z {w = w16} (record { sfits = h })

pub back32 : (z : ℤ) → mag z < 2 ^ 31 → to_z w32 (of_z w32 z) ≡ z
back32 z h = to_z-of_z {w = w32} (record { sfits = h })

module _ {n : ℕ} {ps : List (ParamKind n)} {Γ : Cx} {ar : ArgsT ps Γ.locals} {u : Mo Γ} where
  pub got16 : {Q : Out n ps (r_s_num w16)} (d : Called ps (r_s_num w16) Q Γ ar u) → to_z w16 (of_z w16 d.result) ≡ d.result
  got16 d = to_z-of_z {w = w16} (record { sfits = d.type_inv })

  pub got32 : {Q : Out n ps (r_s_num w32)} (d : Called ps (r_s_num w32) Q Γ ar u) → to_z w32 (of_z w32 d.result) ≡ d.result
  got32 d = to_z-of_z {w = w32} (record { sfits = d.type_inv })

pub wider : {z : ℤ} → SFits w16 z → SFits w32 z
wider f = sfits_widen tt f

-- what `wide` gives, read back
pub widened : {x z : ℤ} → mag z < 2 ^ 31 → z ≡ to_z w16 (of_z w16 x) → SFits w16 x → to_z w32 (of_z w32 z) ≡ x
widened {x} {z} h e f = back32 z h ∙ (e ∙ to_z-of_z f)
