-- The new first coefficient keeps its bound.
-- Assumes nothing.
use Rattle.std.specs.Prelude.{Bool, cond, ◌≤◌, ℤ, pos, nat_abs, ◌+ℤ◌, ◌-ℤ◌, ◌*ℤ◌}
use Rattle.std.proofs.Math.Path.{sym}
use Rattle.std.specs.Int.Signed.{shr_z}
use Rattle.laws.specs.Order.{zarith, sub_read}
use Rattle.laws.specs.Clamp.{clamp, clamp_within}
use Rattle.g722.specs.Arithmetic.{neg}
use Rattle.idle.specs.Recursive.{up_abs, dn_abs, abs_from, first_of, first_is}

pub first_abs : (one : Bool) (a1 a2 : ℤ) → nat_abs a1 ≤ 27648 → nat_abs a2 ≤ 12288 → nat_abs (first_of one a1 a2) ≤ 27648
first_abs one a1 a2 h k =
    let z = cond one (pos 192) (neg 192) +ℤ shr_z (a1 *ℤ pos 32640) 32768 in
    let lo = a2 -ℤ pos 15360 in
    let hi = pos 15360 -ℤ a2 in
    let u = up_abs a2 in
    let d = dn_abs a2 in
    let p = sub_read a2 (pos 15360) in
    let q = sub_read (pos 15360) a2 in
    let w = clamp_within lo hi z (omega zarith) in
    rw (sym (first_is one one a1 a2 h k)) (abs_from (clamp lo hi z) 27648 (omega (zarith, w.0)) (omega (zarith, w.1)))
