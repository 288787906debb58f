-- `sweep::hear::hear_band` meets its contract: a block is taken, and what is none is given back.
use Rattle.std.proofs.Common.{◌∙◌, sym}
use Rattle.laws.specs.Outcome.{becomes}
use Rattle.sweep.specs.Block.{heard_run, heard_block, block_is, heard_block_lem}
use Rattle.sweep.proofs.hear.hear_band.Goals as goal

pub returns-then-not-takes : goal.returns-then-not-takes
unfolding heard_block
returns-then-not-takes c =
    let e = sym c.takes.ensures ∙ c.if-not-takes.true in
    record { answer = rw e; left = rw e }

pub run-requires-clause-ys_len_bound : goal.run-requires-clause-ys_len_bound
run-requires-clause-ys_len_bound c = (block_is _ _ _ (sym c.takes.ensures ∙ c.if-not-takes.false)).0

pub run-requires-clause-xs_len : goal.run-requires-clause-xs_len
run-requires-clause-xs_len c = (block_is _ _ _ (sym c.takes.ensures ∙ c.if-not-takes.false)).1

pub run-requires-clause-poles_value : goal.run-requires-clause-poles_value
run-requires-clause-poles_value c = (block_is _ _ _ (sym c.takes.ensures ∙ c.if-not-takes.false)).2

pub returns : goal.returns
returns c =
    becomes ((λ j. heard_run (c.of.ensures j) c.args.mode c.args.s c.args.octets.now) ∙ sym (heard_block_lem c.args.high c.args.s c.args.mode c.args.octets.now c.args.signals.now (sym c.takes.ensures ∙ c.if-not-takes.false)))
    c.run.ensures
