-- The definition makes the same tests.
use Rattle.std.proofs.Common.{◌≡◌, refl, ◌∙◌, Ok}
use Rattle.block.specs.Read.{read_as}
use Rattle.playing.specs.Play.{afresh, decoder_for}
use Rattle.player.proofs.decoder_for.Goals.{then-not-p, else-not-p}
use Rattle.player.proofs.decoder_for.Goals as goal

pub returns-then-begins : goal.returns-then-begins
unfolding decoder_for afresh
returns-then-begins c =
    let e : c.if-not-p.value ≡ afresh c.args.p (read_as (Ok c.args.header)) = elim c.if-not-p.branch [
      | then-not-p w ↦ w.value-is ∙ rw w.if-not-p.true refl
      | else-not-p w ↦ w.value-is ∙ (w.begins.ensures ∙ rw w.if-not-p.false refl)
    ] in
    rw (← e, c.if-begins.true) c.reset.ensures

pub returns-else-begins : goal.returns-else-begins
unfolding decoder_for afresh
returns-else-begins c =
    let e : c.if-not-p.value ≡ afresh c.args.p (read_as (Ok c.args.header)) = elim c.if-not-p.branch [
      | then-not-p w ↦ w.value-is ∙ rw w.if-not-p.true refl
      | else-not-p w ↦ w.value-is ∙ (w.begins.ensures ∙ rw w.if-not-p.false refl)
    ] in
    rw (← e, c.if-begins.false) refl
