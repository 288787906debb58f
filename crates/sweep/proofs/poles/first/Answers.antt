-- `sweep::poles::first` meets its contract: within the bounds no sum passes 32 bits, and the stops left out are idle.
use Rattle.std.proofs.Common.{arith, nat_abs, pos, ◌≤◌, ◌+ℤ◌, ◌-ℤ◌, SFits, to_z-of_z}
use mir.Syntax.{w32}
use Rattle.laws.specs.Back.{back32}
use Rattle.laws.specs.Size.{fits_abs, abs_add, abs_sub}
use Rattle.idle.specs.Recursive.{step_abs, first_is}
use Rattle.sweep.proofs.poles.first.Goals as goal

pub returns : goal.returns
returns c =
    let a = c.args in
    let d = c.choose in
    let m = c.scaled in
    let step : nat_abs d.result ≤ 192 = rw d.ensures (step_abs a.one 192) in
    let low : nat_abs m.result ≤ nat_abs a.a1 = rw (to_z-of_z c.ranges.a1) at m.ensures.1 in
    let sum : SFits w32 (d.result +ℤ m.result) =
    fits_abs (omega (arith, abs_add d.result m.result, step, low, c.requires.a1_bound)) in
    let lo : SFits w32 (a.a2 -ℤ pos 15360) = fits_abs (omega (arith, abs_sub a.a2 (pos 15360), c.requires.a2_bound)) in
    let hi : SFits w32 (pos 15360 -ℤ a.a2) = fits_abs (omega (arith, abs_sub (pos 15360) a.a2, c.requires.a2_bound)) in
    cc (
      back32 c.fit.result c.fit.type_inv,
      to_z-of_z sum,
      to_z-of_z lo,
      to_z-of_z hi,
      back32 m.result m.type_inv,
      back32 d.result d.type_inv,
      to_z-of_z c.ranges.a1,
      to_z-of_z c.ranges.a2,
      first_is a.one a.one a.a1 a.a2 c.requires.a1_bound c.requires.a2_bound,
    )
