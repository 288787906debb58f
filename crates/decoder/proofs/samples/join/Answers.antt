-- `decoder::join` meets its contract: each way out is a case of the definition.
use mathlib.Core.Path.{◌≡◌, refl, sym, ap, ◌∙◌}
use mathlib.Core.Bool.{Bool, false, not, ◌||◌, ◌&&◌}
use borrow.Author.Tests.{eq-eqb, lt-ltb, le-ltb}
use Prim.Native.Nat.{ℕ, min}
use lib.Dec.{eqb}
use Rattle.laws.specs.Outcome.{does}
use Rattle.facts.specs.Blocks.{done}
use Rattle.facts.specs.Range.{none_bad_pair, some_bad_pair}
use Rattle.g722.specs.Records.{all_in_range}
use Rattle.g722.specs.Coding.{misfit}
use Rattle.g722.specs.Steps.{first_bad_pair, joined}
use Rattle.g722.specs.declared.Accepted.{Accepted}
use Rattle.g722.specs.declared.Decoder.{Decoder}
use Rattle.g722.specs.InSteps.{join_4, join_0}
use Rattle.decoder.proofs.samples.join.Goals as goal
use Rattle.decoder.proofs.samples.join.Goals.{then-not-all_in_range-via-then-not-all_in_range}
use Rattle.decoder.proofs.samples.join.Goals.{then-not-all_in_range-via-else-not-all_in_range+then-not-all_in_range-2}

-- what the second test leaves
fits : (samples low high : ℕ) {t : Bool} → t ≡ misfit samples low → t ≡ false → high ≡ low
    → (misfit samples low || not (eqb high low)) ≡ false
fits samples low high e f g = rw (← e, f, eq-eqb high low g)

pub returns-then-not-all_in_range : goal.returns-then-not-all_in_range
unfolding first_bad_pair
returns-then-not-all_in_range c =
    let a = c.args in
    let fit = fits _ _ _ c.misfit-unfit.ensures c.if-unfit.false c.if-high-low.false in
    let good = sym c.good_decoder-good.ensures ∙ c.if-not-good.false in
    let looked : (all_in_range a.low.now && all_in_range a.high.now) ≡ false =
    elim c.then-not-all_in_range.branch [
      | then-not-all_in_range-via-then-not-all_in_range w ↦ rw (sym c.all_in_range.ensures ∙ w.if-not-all_in_range.true)
      | then-not-all_in_range-via-else-not-all_in_range+then-not-all_in_range-2 w ↦
          rw (
            sym c.all_in_range.ensures ∙ w.if-not-all_in_range.false,
            sym w.all_in_range-else-not-all_in_range.ensures ∙ w.if-not-all_in_range-2.true,
          )
    ] in
    let bad = some_bad_pair _ _ c.if-high-low.false looked in
    let index = c.min.ensures ∙ λ i. min (c.first_bad.ensures i) (c.first_bad-then-not-all_in_range.ensures i) in
    does (join_4 _ _ _ _ fit good (lt-ltb _ _ bad)) (ap (λ (n : ℕ). record { number = 4; index = n; limited = 0; next = a.d }) index) refl

pub returns : goal.returns
unfolding joined
returns c =
    let fit = fits _ _ _ c.misfit-unfit.ensures c.if-unfit.false c.if-high-low.false in
    let good = sym c.good_decoder-good.ensures ∙ c.if-not-good.false in
    let low = sym c.all_in_range.ensures ∙ c.if-not-all_in_range.false in
    let high = sym c.all_in_range-else-not-all_in_range.ensures ∙ c.if-not-all_in_range-2.false in
    let clean = none_bad_pair _ _ c.if-high-low.false (rw (low, high)) in
    does (join_0 _ _ _ _ fit good (le-ltb _ _ clean))
    (ap (λ (r : Accepted Decoder). done r.limited r.next) c.given.ensures ∙ c.join_all.ensures.answer) c.join_all.ensures.left
