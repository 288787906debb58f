-- `sweep::run::run` meets its contract: what is left to do, from the band that the locals stand for, gives the whole.
use Rattle.std.proofs.Common.{rules, ◌∙◌, ap, ◌+◌, ◌^◌, ◌<◌, arith}
use Rattle.std.specs.Int.Signed.{mag}
use Rattle.laws.specs.Back.{back16, back32}
use Rattle.g722.specs.Band.{next_zeros}
use Rattle.idle.specs.Recursive.{good_bounds}
use Rattle.sweep.proofs.Loop.{started, turned_on, ended}
use Rattle.sweep.proofs.run.run.Goals as goal

pub widened-p-requires : goal.widened-p-requires
widened-p-requires g c = good_bounds _ c.requires.poles_value

pub loop-i-init : goal.loop-i-init
loop-i-init g c =
    record {
      within = omega arith;
      turns = ap (λ r. r.1) c.of-rows.ensures;
      going = started (ap (λ r. r.0) c.of-rows.ensures) c.widened-p.ensures c.scales-f.ensures;
    }

pub loop-i-preserved : goal.loop-i-preserved
loop-i-preserved g c =
    let l = c.loop-i in
    let v = l.invariant in
    let sz = c.filtez in
    let t = c.turn-y.result.1 in
    let d-fits : mag t.d < 2 ^ 15 = search rules in
    let by = rw (back32 sz.result sz.type_inv) at c.turn-y.ensures in
    record {
      within = omega arith;
      turns = ap (λ r. r.1) c.adapt.ensures ∙ ap (λ n. n + 1) v.turns;
      going = turned_on v.going c.index-xs-i.is (omega arith) (omega (arith, v.going.long)) sz.ensures.0 by
          (ap (λ r. r.0) c.adapt.ensures ∙ ap (next_zeros l.rows.0) (back16 t.d d-fits));
    }

pub returns : goal.returns
returns g c =
    let v = c.loop-i.invariant.going in
    ended v (omega arith) (omega (arith, v.long)) c.zeros.ensures c.narrowed.ensures c.factors.ensures
