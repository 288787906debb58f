-- The definition makes the same two tests.
use Rattle.std.proofs.Common.{refl}
use borrow.Author.Tests.{eq-eqb, ne_eqb}
use Rattle.playing.specs.Play.{begins}
use Rattle.player.proofs.begins.Goals as goal

pub returns-then-header-eq0 : goal.returns-then-header-eq0
unfolding begins
returns-then-header-eq0 c = rw (eq-eqb _ 0 c.if-header-eq0.true) refl

pub returns-else-header-eq0 : goal.returns-else-header-eq0
unfolding begins
returns-else-header-eq0 c = rw (ne_eqb _ 0 c.if-header-eq0.false) refl
