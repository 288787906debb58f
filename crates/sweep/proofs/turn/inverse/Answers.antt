-- `sweep::turn::inverse` meets its contract: a scale times an output is never stopped, and is no larger than the output.
use Rattle.std.proofs.Common.{sym, ◌≤◌, nat_abs, arith, mul-le-mul, SFits, to_z-of_z}
use mir.Syntax.{w32}
use lib.IntN.{◌*ℤ◌}
use lib.Signed.{shr_z}
use Rattle.laws.specs.Back.{widened}
use Rattle.laws.specs.Size.{fits_abs, abs_mul, abs_mag, mag_abs, shr_fits}
use Rattle.quant.specs.Unstopped.{mul_plain}
use Rattle.idle.specs.Recursive.{scaled_abs}
use Rattle.sweep.proofs.turn.inverse.Goals as goal

pub returns : goal.returns
returns c =
    let q = c.args.q in
    let k = c.args.scale in
    let h = c.requires.q_bound in
    let small : nat_abs k ≤ 32768 = omega (arith, abs_mag k, c.requires.scale_bound) in
    let m : SFits w32 (q *ℤ k) = fits_abs (omega (arith, abs_mul q k, mul-le-mul h small)) in
    simp (widened c.from.type_inv c.from.ensures c.ranges.q, to_z-of_z c.ranges.scale, to_z-of_z m, to_z-of_z (shr_fits 32768 m))
    (sym (mul_plain k q (omega (arith, h)) c.requires.scale_bound), omega (arith, mag_abs (shr_z (q *ℤ k) 32768), scaled_abs q k small, h))
