-- `pcm::hear_chunk` meets its contract: each way out is a case of the definition.
use mathlib.Core.Path.{refl, sym, ◌∙◌}
use native.Mathlib.Omega.{arith}
use Rattle.laws.specs.Outcome.{does}
use Rattle.pcm.specs.Signals.{not_heard_bytes}
use Rattle.pcm.proofs.Steps.{fits, hear_untold, hear_unfit, hear_broken}
use Rattle.pcm.proofs.signals.hear_chunk.Goals as goal

pub returns-then-told-gt3 : goal.returns-then-told-gt3
unfolding not_heard_bytes
returns-then-told-gt3 c = does (hear_untold _ _ _ _ _ (omega arith)) refl refl

pub returns-then-unpaired : goal.returns-then-unpaired
unfolding not_heard_bytes
returns-then-unpaired c = does (hear_unfit _ _ _ _ _ (omega arith) (sym c.unpaired.ensures ∙ c.if-unpaired.true)) refl refl

-- a broken record, of a long call
pub returns-then-not-good_decoder : goal.returns-then-not-good_decoder
unfolding not_heard_bytes
returns-then-not-good_decoder c =
    let fit = sym c.unpaired.ensures ∙ c.if-unpaired.false in
    does (hear_broken _ _ _ _ _ (omega arith) fit (sym c.good_decoder.ensures ∙ c.if-not-good_decoder.true)) refl refl

pub hear_and_store-requires-2-clause-room : goal.hear_and_store-requires-2-clause-room
hear_and_store-requires-2-clause-room c = (fits _ _ _ (sym c.unpaired.ensures ∙ c.if-unpaired.false)).0
