-- `sweep::takes` meets its contract: each test of the code is one of the definition's, in its order.
use Rattle.std.proofs.Common.{rules, ◌∙◌, inl, inr, arith}
use Rattle.std.proofs.lemmas.Bool.{lt-leb}
use borrow.Author.Tests.{lt-ltb, le-ltb, eq-eqb, ne_eqb}
use Rattle.sweep.specs.Block.{takes}
use Rattle.sweep.proofs.takes.Goals.{then-places-le160, else-places-le160}
use Rattle.sweep.proofs.takes.Goals as goal

pub returns-then-items-places : goal.returns-then-items-places
unfolding takes
returns-then-items-places c =
    simp (c.good_poles.ensures, le-ltb 160 c.args.places (search rules), eq-eqb c.args.items c.args.places (search rules))

pub returns-else-items-places : goal.returns-else-items-places
unfolding takes
returns-else-items-places c =
    let a = c.args in
    elim c.if-places-le160.branch [
      | then-places-le160 w ↦ w.t-5-is ∙ elim c.if-items-places.either [
        | inl h ↦ simp (le-ltb 160 a.places h.0, ne_eqb a.items a.places h.1)
        | inr h ↦ absurd (omega (arith, h, w.if-places-le160.true))
      ]
      | else-places-le160 w ↦ let h = w.if-places-le160.false in w.t-5-is ∙ simp (lt-leb a.places 160 h, lt-ltb 160 a.places h)
    ]
