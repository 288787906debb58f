-- What bytes of a state's length and kind hold, and what others are read as.
use Rattle.std.proofs.Common.{sym, ◌∙◌}
use Rattle.state.proofs.Reset.{held_length}
use Rattle.state.proofs.Laws.{coder_read, no_coder_lem}
use Rattle.state.proofs.read.read_coder.Goals as goal

pub parts-requires : goal.parts-requires
parts-requires c = held_length 1 _ (sym c.holds.ensures ∙ c.if-holds.true)

pub returns-then-holds : goal.returns-then-holds
returns-then-holds c = let p = c.parts.ensures in coder_read _ p.low p.high (sym c.holds.ensures ∙ c.if-holds.true) p.past

pub returns-else-holds : goal.returns-else-holds
returns-else-holds c = no_coder_lem _ c.reset_band.ensures c.reset_band-else-holds.ensures (sym c.holds.ensures ∙ c.if-holds.false)
