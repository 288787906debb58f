-- `sweep::rows::Rows::filtez` meets its contract: the two lanes beside the six add nothing, and a plain sum that is whole is the chain's.
use Rattle.std.proofs.Common.{rules, ◌≡◌, ◌∙◌, ap, sym, ℕ, ◌^◌, ◌<◌, length, take, drop, arith}
use Rattle.std.specs.Int.Signed.{mag}
use Rattle.laws.specs.Back.{back32, back16}
use Rattle.g722.specs.Band.{filtez}
use Rattle.g722.specs.declared.Zeros.{Zeros}
use Rattle.idle.specs.Plain.{plain_whole}
use Rattle.idle.specs.Rows.{filtez_rows, sums_mag}
use Rattle.lanes.specs.Sum.{plain_of}
use Rattle.lanes.specs.declared.PlainSum.{PlainSum}
use Rattle.sweep.proofs.rows.Rows.filtez.Goals as goal

-- FILTEZ has 16 bits
filtez-mag : (z : Zeros) → mag (filtez z) < 2 ^ 15
unfolding filtez
filtez-mag z = sums_mag _

pub returns-then-p : goal.returns-then-p
unfolding plain_of
returns-then-p c =
    let q = c.self.inside in
    let b16 : length q.b ≡ 16 = search rules in
    let d168 : length q.d ≡ 168 = search rules in
    let p : c.plain-p.result ≡ plain_of (take 8 (drop q.o q.b)) (take 8 (drop q.i q.d)) =
    c.plain-p.ensures ∙ (λ j. plain_of (c.taken.ensures j) (c.taken-2.ensures j)) in
    let z = ap (λ (v : Zeros × ℕ). v.0) c.self.view_is in
    let sum : c.plain-p.result.sum ≡ filtez c.args.self.now.0 =
    ap (λ (r : PlainSum). r.sum) p
    ∙ plain_whole _ _ (sym (ap (λ (r : PlainSum). r.whole) p) ∙ c.if-p.true)
    ∙ sym (filtez_rows q.b q.d q.o q.i (omega arith) (omega arith) c.self.invariant.2)
    ∙ ap filtez z in
    let s32 : mag c.plain-p.result.sum < 2 ^ 31 = search rules in
    let read = back32 c.plain-p.result.sum s32 ∙ sum in
    (read, rw read (filtez-mag _))

pub returns-else-p : goal.returns-else-p
returns-else-p c =
    let e = back32 c.from.result c.from.type_inv ∙ c.from.ensures ∙ (back16 c.filtez.result c.filtez.type_inv ∙ c.filtez.ensures ∙ ap filtez c.zeros.ensures) in
    (e, rw e (filtez-mag _))
