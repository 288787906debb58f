-- `mirror::taps` meets its contract: one product more.
use Rattle.std.proofs.Common.{rules, arith, ◌+◌, ◌*◌, ◌-◌}
use mir.Syntax.{w32}
use mir.Val.{to_z, of_z}
use Rattle.g722.specs.Tables.{h}
use Rattle.g722.specs.Mirror.{coefficient}
use Rattle.mirror.specs.Rows.{nth, taps_at}
use Rattle.mirror.proofs.Sums.{Read, is_read, phase_weight, none, more_fits, more, whole}
use Rattle.mirror.proofs.taps.Goals as goal

pub loop-j-init : goal.loop-j-init
loop-j-init c = none _ _

-- a coefficient and the number that it meets
module _ (c : goal.After-from-in-loop-j) where
  a : Read 32768 (to_z w32 (of_z w32 c.from.result)) (coefficient (2 * c.loop-j.j + c.args.phase))
  unfolding coefficient h
  a = is_read (search rules) c.from.type_inv c.from.ensures

  b : Read 32768 (to_z w32 (of_z w32 c.from-in-loop-j.result)) (nth c.args.x.now (c.args.i + 11 - c.loop-j.j))
  b = is_read (search rules) c.from-in-loop-j.type_inv c.from-in-loop-j.ensures

pub overflow_add-sum : goal.overflow_add-sum
overflow_add-sum c = more_fits c.loop-j.invariant (phase_weight _ (omega arith)) (a c) (b c) (omega arith)

pub loop-j-preserved : goal.loop-j-preserved
loop-j-preserved c = more c.loop-j.invariant (phase_weight _ (omega arith)) (a c) (b c) (omega arith)

pub returns : goal.returns
unfolding taps_at
returns c =
    let r = whole c.loop-j.invariant (phase_weight _ (omega arith)) (omega arith) in
    (r.is, rw r.is r.small)
