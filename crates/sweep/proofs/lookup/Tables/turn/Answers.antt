-- `sweep::lookup::Tables::turn` meets its contract: the output and the weight are read by the word, and no sum passes 32 bits.
use Rattle.std.proofs.Common.{rules, ◌/◌, arith}
use Rattle.g722.specs.Arithmetic.{add}
use Rattle.at_hand.proofs.Signed.{outputs_at, output_small, weights_at}
use Rattle.idle.specs.Factors.{factors_of}
use Rattle.sweep.specs.Turn.{step_of, step_by}
use Rattle.sweep.proofs.lookup.Tables.turn.Goals as goal

pub inverse-d-requires-clause-q_bound : goal.inverse-d-requires-clause-q_bound
inverse-d-requires-clause-q_bound c =
    let t = c.args.self.now in
    let w = c.args.word in
    search (rules, t.outputs_are, outputs_at t.high 3 w c.requires.2, output_small t.high 3 w)

pub returns : goal.returns
unfolding step_of step_by factors_of add
returns c =
    let t = c.args.self.now in
    let w = c.args.word in
    search (rules, t.outputs_are, outputs_at t.high 3 w c.requires.2, t.weights_are, weights_at t.high (w / 4) (omega (arith, c.requires.2)))
