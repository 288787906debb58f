-- `coder::code` meets its contract: a sample out of range is found, and a call that nothing refuses is its run.
use Rattle.std.proofs.Common.{◌≡◌, sym, ◌∙◌, arith, true, false, List, ◌≤◌, length}
use lib.IntN.{ℤ}
use Prim.Native.Nat.{ℕ}
use borrow.Author.Tests.{le-ltb}
use Rattle.laws.specs.Outcome.{does}
use Rattle.facts.specs.Range.{none_bad, some_bad}
use Rattle.g722.specs.Records.{good_coder}
use Rattle.g722.specs.Coding.{first_bad, misfit, not_coded, coded, code_call}
use Rattle.g722.specs.declared.Coder.{Coder}
use Rattle.coder.proofs.code.Goals as goal

accepted : (c : Coder) (s : List ℤ) (o : List ℕ) → misfit (length s) (length o) ≡ false → good_coder c ≡ true → length s ≤ first_bad s
    → code_call c s o ≡ coded c s
unfolding code_call
accepted c s o e g b = rw (e, g, le-ltb _ _ b)

pub returns-then-not-all_in_range : goal.returns-then-not-all_in_range
unfolding code_call not_coded misfit
returns-then-not-all_in_range c = grind (arith, some_bad)

pub returns : goal.returns
returns c =
    let fit = sym c.misfit-unfit.ensures ∙ c.if-unfit.false in
    let good = sym c.good_coder-good.ensures ∙ c.if-not-good.false in
    let clean = none_bad _ (sym c.all_in_range.ensures ∙ c.if-not-all_in_range.false) in
    does (accepted _ _ _ fit good clean) c.run-limited.ensures.answer c.run-limited.ensures.left
