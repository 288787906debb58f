-- `sweep::poles::scaled` meets its contract: a product of two such numbers fits 32 bits, and its shift makes it no larger than the first.
use Rattle.std.proofs.Common.{refl, arith, mul-le-mul, SFits, to_z-of_z}
use mir.Syntax.{w32}
use lib.IntN.{◌*ℤ◌}
use Rattle.laws.specs.Size.{fits_abs, abs_mul, shr_fits}
use Rattle.idle.specs.Recursive.{scaled_abs}
use Rattle.sweep.proofs.poles.scaled.Goals as goal

pub returns : goal.returns
returns c =
    let a = c.args.a in
    let b = c.args.b in
    let m : SFits w32 (a *ℤ b) = fits_abs (omega (arith, abs_mul a b, mul-le-mul c.requires.a_bound c.requires.b_bound)) in
    simp (to_z-of_z c.ranges.a, to_z-of_z c.ranges.b, to_z-of_z m, to_z-of_z (shr_fits 32768 m)) (refl, scaled_abs a b c.requires.b_bound)
