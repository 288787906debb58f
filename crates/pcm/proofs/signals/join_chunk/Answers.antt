-- `pcm::join_chunk` meets its contract: each way out is a case of the definition.
use mathlib.Core.Path.{refl, sym, ◌∙◌}
use Rattle.laws.specs.Outcome.{does}
use Rattle.pcm.specs.Chunks.{not_stored}
use Rattle.pcm.proofs.Steps.{fits, join_unfit, join_uneven, join_broken}
use Rattle.pcm.proofs.signals.join_chunk.Goals.{then-unpaired-via-then-unpaired, then-unpaired-via-else-unpaired+then-samples-n}
use Rattle.pcm.proofs.signals.join_chunk.Goals as goal

pub returns-then-unpaired : goal.returns-then-unpaired
unfolding not_stored
returns-then-unpaired c = elim c.then-unpaired.branch [
  | then-unpaired-via-then-unpaired w ↦ does (join_unfit _ _ _ _ (sym c.unpaired.ensures ∙ w.if-unpaired.true)) refl refl
  | then-unpaired-via-else-unpaired+then-samples-n w ↦
      does (join_uneven _ _ _ _ (sym c.unpaired.ensures ∙ w.if-unpaired.false) w.if-samples-n.true) refl refl
]

-- a broken record, of a long call
pub returns-then-not-good_decoder : goal.returns-then-not-good_decoder
unfolding not_stored
returns-then-not-good_decoder c =
    let fit = sym c.unpaired.ensures ∙ c.if-unpaired.false in
    does (join_broken _ _ _ _ fit c.if-samples-n.false (sym c.good_decoder.ensures ∙ c.if-not-good_decoder.true)) refl refl

pub load_and_join-requires-2-clause-room : goal.load_and_join-requires-2-clause-room
load_and_join-requires-2-clause-room c = (fits _ _ _ (sym c.unpaired.ensures ∙ c.if-unpaired.false)).0
