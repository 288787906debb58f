-- `mirror::split_rows` meets its contract: each signal is stored at its place, and those that were limited are counted.
use Rattle.std.proofs.Common.{rules, ◌≡◌, ap, ◌∙◌, ◌*◌, arith}
use lib.Dec.{lit<}
use mir.Syntax.{w32}
use mir.Val.{to_z, of_z}
use mir.Facts.{to_z-of_z}
use Rattle.laws.specs.Back.{back16, back32}
use Rattle.laws.specs.Size.{shr_fits}
use Rattle.g722.specs.Arithmetic.{limited, changes}
use Rattle.g722.specs.declared.Limited.{Limited}
use Rattle.facts.specs.Overload.{room_for_two}
use Rattle.mirror.specs.Rows.{nth, taps_at, low_at, high_at}
use Rattle.mirror.proofs.Sums.{Read, plus_fits, less_fits}
use Rattle.mirror.proofs.Loops.{stored_more, stored_all, counted_more, counted_all}
use Rattle.mirror.proofs.transmit.split_rows.Goals as goal

-- the two sums, and the two signals
module _ (c : goal.After-changes-limited) where
  a : Read (6482 * 32768) (to_z w32 (of_z w32 c.taps-xa.result)) (taps_at 0 (nth c.args.odd.now) c.loop-i.i)
  a =
      let e = c.taps-xa.ensures in
      record { is = back32 c.taps-xa.result c.taps-xa.type_inv ∙ e.0; small = rw e.0 at e.1 }

  b : Read (6482 * 32768) (to_z w32 (of_z w32 c.taps-xb.result)) (taps_at 1 (nth c.args.even.now) c.loop-i.i)
  b =
      let e = c.taps-xb.ensures in
      record { is = back32 c.taps-xb.result c.taps-xb.type_inv ∙ e.0; small = rw e.0 at e.1 }

  low≡ : c.limit-xl.result ≡ limited (low_at c.args.even.now c.args.odd.now c.loop-i.i)
  unfolding low_at
  low≡ =
      let p = plus_fits a b (lit< tt) in
      c.limit-xl.ensures ∙ rw (to_z-of_z p, to_z-of_z (shr_fits 8192 p), a.is, b.is)

  high≡ : c.limit-xh.result ≡ limited (high_at c.args.even.now c.args.odd.now c.loop-i.i)
  unfolding high_at
  high≡ =
      let m = less_fits a b (lit< tt) in
      c.limit-xh.ensures ∙ rw (to_z-of_z m, to_z-of_z (shr_fits 8192 m), a.is, b.is)

pub overflow_add-limited : goal.overflow_add-limited
overflow_add-limited c = omega (arith, room_for_two _ _ c.loop-i.invariant.count (omega arith) c.changes-limited.ensures)

pub loop-i-preserved : goal.loop-i-preserved
unfolding limited
loop-i-preserved c =
    let v = c.loop-i.invariant in
    let low = low≡ c in
    let high = high≡ c in
    record {
      lows = stored_more _ _ v.lows (omega arith) (back16 _ (search rules) ∙ ap (λ (t : Limited). t.value) low);
      highs = stored_more _ _ v.highs (omega arith) (back16 _ (search rules) ∙ ap (λ (t : Limited). t.value) high);
      count = counted_more _ _ _ v.count (omega arith) (c.changes-limited.ensures ∙ λ j. changes (low j) (high j));
    }

pub returns : goal.returns
returns c =
    let v = c.loop-i.invariant in
    let low = stored_all _ _ v.lows (omega arith) in
    let high = stored_all _ _ v.highs (omega arith) in
    record { answer = counted_all _ _ _ v.count (omega arith); left = λ j. (low j, high j) }
