-- What bytes of a state's length and kind hold, and what others are read as.
use Rattle.std.proofs.Common.{sym, ap, ◌∙◌, arith, take, drop}
use Rattle.big_endian.specs.Bytes.{pcm_samples}
use Rattle.state.proofs.Reset.{held_length}
use Rattle.state.proofs.Laws.{part_of_part, decoder_read, no_decoder_lem}
use Rattle.state.proofs.read.read_decoder.Goals as goal

pub parts-requires : goal.parts-requires
parts-requires c = held_length 2 _ (sym c.holds.ensures ∙ c.if-holds.true)

pub returns-then-holds : goal.returns-then-holds
returns-then-holds c =
    let p = c.parts.ensures in
    let v = pcm_samples (drop 1 c.args.state.now) in
    decoder_read _ p.low p.high (sym c.holds.ensures ∙ c.if-holds.true)
    (c.parted-past.ensures.rl ∙ ap (take 11) p.past ∙ part_of_part 40 22 0 11 v (omega arith))
    (c.parted-past.ensures.rh ∙ ap (λ v. take 11 (drop 11 v)) p.past ∙ part_of_part 40 22 11 11 v (omega arith))

pub returns-else-holds : goal.returns-else-holds
returns-else-holds c = no_decoder_lem _ c.reset_band.ensures c.reset_band-else-holds.ensures (sym c.holds.ensures ∙ c.if-holds.false)
