-- `sweep::turn::predic` meets its contract: the sum of the two outputs fits 32 bits, and is stopped.
use Rattle.std.proofs.Common.{◌∙◌, ap, ℤ, pos, ◌+ℤ◌, ◌^◌, ◌<◌, SFits, to_z-of_z, arith}
use mir.Syntax.{w32}
use Rattle.std.specs.Int.Signed.{mag}
use Rattle.laws.specs.Back.{back32}
use Rattle.laws.specs.Clamp.{clamp_within}
use Rattle.laws.specs.Order.{zarith, size_within}
use Rattle.laws.specs.Size.{fits_abs, abs_add, abs_mag}
use Rattle.g722.specs.Arithmetic.{neg, stop, add}
use Rattle.sweep.proofs.turn.predic.Goals as goal

stop-mag : (z : ℤ) → mag (stop z) < 2 ^ 15
stop-mag z = let w = clamp_within (neg 32768) (pos 32767) z (omega zarith) in omega (arith, size_within 32767 (stop z) w.0 w.1)

pub returns : goal.returns
unfolding add
returns c =
    let f = c.filtep in
    let sz = c.args.sz in
    let fits : SFits w32 (f.result +ℤ sz) = fits_abs (omega (arith, abs_add f.result sz, f.ensures.1, abs_mag sz, c.requires)) in
    let kept = back32 c.fit.result c.fit.type_inv ∙ c.fit.ensures in (
      simp (kept, back32 f.result f.type_inv, to_z-of_z c.ranges.sz, to_z-of_z fits) (ap (λ (z : ℤ). stop (z +ℤ sz)) f.ensures.0),
      rw kept (stop-mag _),
    )
