use borrow.Author.Tests.{eq-eqb, ne_eqb}
use Rattle.state.specs.Layout.{holds}
use Rattle.state.proofs.read.holds.Goals as goal

pub returns-then-state-eq-LENGTH : goal.returns-then-state-eq-LENGTH
unfolding holds
returns-then-state-eq-LENGTH c = let e = c.first_byte.ensures in rw e (simp (eq-eqb _ _ c.if-state-eq-LENGTH.true))

pub returns-else-state-eq-LENGTH : goal.returns-else-state-eq-LENGTH
unfolding holds
returns-else-state-eq-LENGTH c = simp (ne_eqb _ _ c.if-state-eq-LENGTH.false)
