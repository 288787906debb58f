-- `sweep::poles::second` meets its contract: within the bounds no sum passes 32 bits, and the stops left out are idle.
use Rattle.std.proofs.Common.{arith, nat_abs, ℤ, ◌≤◌, ◌+ℤ◌, SFits, to_z-of_z}
use mir.Syntax.{w32}
use Rattle.laws.specs.Back.{back32}
use Rattle.laws.specs.Size.{fits_abs, abs_add}
use Rattle.idle.specs.Recursive.{step_abs, second_is}
use Rattle.sweep.proofs.poles.second.Goals as goal

-- both sums fit
sums : (x y z a : ℤ) → nat_abs x ≤ 256 → nat_abs y ≤ 128 → nat_abs z ≤ nat_abs a → nat_abs a ≤ 12288
    → SFits w32 (x +ℤ y) × SFits w32 (x +ℤ y +ℤ z)
sums x y z a h k l m = (fits_abs (omega (arith, abs_add x y)), fits_abs (omega (arith, abs_add (x +ℤ y) z, abs_add x y)))

pub overflow_add-turned-2 : goal.overflow_add-turned-2
overflow_add-turned-2 c =
    let t = c.turned in
    let d = c.choose in
    let m = c.scaled in
    let low = rw (to_z-of_z c.ranges.a2) at m.ensures.1 in
    let fit = sums t.result d.result m.result c.args.a2 t.ensures.1 (rw d.ensures (step_abs c.args.two 128)) low c.requires.a2_bound in
    rw (back32 t.result t.type_inv, back32 d.result d.type_inv, to_z-of_z fit.0, back32 m.result m.type_inv) fit.1

pub returns : goal.returns
returns c =
    let a = c.args in
    let t = c.turned in
    let d = c.choose in
    let m = c.scaled in
    let low = rw (to_z-of_z c.ranges.a2) at m.ensures.1 in
    let fit = sums t.result d.result m.result a.a2 t.ensures.1 (rw d.ensures (step_abs a.two 128)) low c.requires.a2_bound in
    cc (
      back32 c.fit.result c.fit.type_inv,
      to_z-of_z fit.1,
      to_z-of_z fit.0,
      back32 m.result m.type_inv,
      back32 d.result d.type_inv,
      back32 t.result t.type_inv,
      to_z-of_z c.ranges.a1,
      to_z-of_z c.ranges.a2,
      second_is a.one a.two a.a1 a.a2 c.requires.a1_bound c.requires.a2_bound,
    )
