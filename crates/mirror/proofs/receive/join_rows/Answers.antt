-- `mirror::join_rows` meets its contract: each pair of samples is stored at its place, and those that were limited are counted.
use Rattle.std.proofs.Common.{rules, ◌≡◌, ap, ◌∙◌, arith}
use Rattle.laws.specs.Back.{back16}
use Rattle.g722.specs.Arithmetic.{limited, changes}
use Rattle.g722.specs.declared.Limited.{Limited}
use Rattle.facts.specs.Overload.{room_for_two}
use Rattle.mirror.specs.Rows.{first_at, second_at}
use Rattle.mirror.proofs.Sums.{shifted}
use Rattle.mirror.proofs.Loops.{paired_more, paired_all, counted_more, counted_all}
use Rattle.mirror.proofs.receive.join_rows.Goals as goal

-- the two samples
module _ (c : goal.After-changes-limited) where
  first≡ : c.limit-first.result ≡ limited (first_at c.args.xd.now c.loop-i.i)
  unfolding first_at
  first≡ = c.limit-first.ensures ∙ ap limited (shifted 4096 c.taps.type_inv c.taps.ensures.0)

  second≡ : c.limit-second.result ≡ limited (second_at c.args.xs.now c.loop-i.i)
  unfolding second_at
  second≡ = c.limit-second.ensures ∙ ap limited (shifted 4096 c.taps-in-loop-i.type_inv c.taps-in-loop-i.ensures.0)

pub overflow_add-limited : goal.overflow_add-limited
overflow_add-limited c = omega (arith, room_for_two _ _ c.loop-i.invariant.count (omega arith) c.changes-limited.ensures)

pub loop-i-preserved : goal.loop-i-preserved
unfolding limited
loop-i-preserved c =
    let v = c.loop-i.invariant in
    let first = first≡ c in
    let second = second≡ c in
    let x = back16 _ (search rules) ∙ ap (λ (t : Limited). t.value) first in
    let y = back16 _ (search rules) ∙ ap (λ (t : Limited). t.value) second in
    record {
      pairs = paired_more _ _ _ v.pairs (omega arith) x y;
      count = counted_more _ _ _ v.count (omega arith) (c.changes-limited.ensures ∙ λ j. changes (first j) (second j));
    }

pub returns : goal.returns
returns c =
    let v = c.loop-i.invariant in
    record { answer = counted_all _ _ _ v.count (omega arith); left = paired_all _ _ _ v.pairs (omega arith) }
