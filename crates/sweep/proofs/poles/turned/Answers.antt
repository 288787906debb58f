-- `sweep::poles::turned` meets its contract: within its bound the short way gives what four times the coefficient gives.
use Rattle.std.proofs.Common.{◌≡◌, rules, ℤ, pos, neg_ℤ, ◌-ℤ◌}
use Rattle.laws.specs.Order.{zarith, sub_read, up_neg, dn_neg}
use Rattle.idle.specs.Recursive.{turned_is, turned_abs}
use Rattle.sweep.proofs.poles.turned.Goals as goal

zero-less : (a : ℤ) → pos 0 -ℤ a ≡ neg_ℤ a
zero-less a = omega (zarith, sub_read (pos 0) a, up_neg a, dn_neg a)

pub returns : goal.returns
returns c =
    let a = c.args in
    search (rules, zero-less a.a1, turned_is a.t a.a1, turned_abs a.t a.a1)
