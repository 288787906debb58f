-- `sweep::rows::Rows::adapt` meets its contract: the coefficients' next row, and the differences moved on by one.
use Rattle.std.proofs.Common.{rules, ◌≡◌, ◌∙◌, ap, ℕ, ◌+◌, ◌-◌, ◌++◌, length, take, drop, set, pos, arith}
use mathlib.Core.List.{zip_with}
use mir.Facts.{to_z-of_z}
use Rattle.g722.specs.Band.{upzero, next_zeros}
use Rattle.g722.specs.declared.Zeros.{Zeros}
use Rattle.idle.specs.Rows.{zeros_at, adapted_rows, quiet_on}
use Rattle.sweep.proofs.rows.Rows.adapt.Goals as goal

pub invariant_of-self : goal.invariant_of-self
invariant_of-self c =
    let q = c.self.inside in
    let i≡ : q.i ≡ c.args.self.now.1 = ap (λ (v : Zeros × ℕ). v.1) c.self.view_is in
    let d168 : length q.d ≡ 168 = search rules in
    (omega arith, omega (arith, c.requires), quiet_on q.d q.i _ (omega (arith, c.requires)) c.self.invariant.2)

pub returns : goal.returns
returns c =
    let q = c.self.inside in
    let at = 8 - q.o in
    let i≡ : q.i ≡ c.args.self.now.1 = ap (λ (v : Zeros × ℕ). v.1) c.self.view_is in
    let b16 : length q.b ≡ 16 = search rules in
    let d168 : length q.d ≡ 168 = search rules in
    let o8 = c.self.invariant.0 in
    let e = to_z-of_z c.ranges.e in
    let n : c.adapt-n.result ≡ zip_with (upzero c.args.e) (take 8 (drop q.o q.b)) (take 8 (drop q.i q.d)) =
    c.adapt-n.ensures ∙ (λ j. zip_with (upzero (e j)) (c.taken.ensures j) (c.taken-2.ensures j)) in
    let b = c.put.ensures ∙ (λ j. take at q.b ++ (n j ++ drop (at + 8) q.b)) in
    (λ j. (zeros_at (b j) at (set (set q.d (q.i + 6) (e j)) (q.i + 8) (pos 0)) (q.i + 1), q.i + 1))
    ∙ (λ j. (adapted_rows q.b q.d q.o q.i (omega arith) (omega (arith, c.requires)) c.args.e o8 b16 j, q.i + 1))
    ∙ ap (λ (v : Zeros × ℕ). (next_zeros v.0 c.args.e, v.1 + 1)) c.self.view_is
