-- Each way out is a case of the definition.
use Rattle.std.proofs.Common.{◌≡◌, ℕ, ◌+◌, ◌-◌, ◌*◌, sym, ap, ◌∙◌, take, drop, arith, length-take, length-drop}
use Rattle.block.specs.Calls.{read_call}
use Rattle.block.specs.Read.{BlockRead}
use Rattle.block.proofs.Numbers.{read_6}
use Rattle.reader.specs.Walk.{stood}
use Rattle.reader.proofs.Stays.{step_end, step_short, step_whole}
use Rattle.reader.proofs.step_at.Goals as goal

pub returns-then-whole-at : goal.returns-then-whole-at
returns-then-whole-at c = c.ended.ensures ∙ sym (step_end c.args.src.now c.args.at (omega arith))

pub returns-then-at-whole : goal.returns-then-at-whole
returns-then-at-whole c =
    let a = c.args in
    let from = 512 * a.at in
    let n : from + 512 - from ≡ 512 = omega arith in
    c.stood.ensures
    ∙ (ap (λ (x : BlockRead). stood x a.at) (c.read.ensures ∙ ap (λ (k : ℕ). read_call (take k (drop from a.src.now))) n)
    ∙ sym (step_whole a.src.now a.at (omega arith)))

pub returns-then-src-from : goal.returns-then-src-from
returns-then-src-from c = c.ended-then-src-from.ensures ∙ sym (step_end c.args.src.now c.args.at (omega arith))

pub returns : goal.returns
returns c =
    let a = c.args in
    c.stood-2.ensures
    ∙ (ap (λ (x : BlockRead). stood x a.at) (c.read-2.ensures ∙ read_6 _ (λ e. omega (arith, simp (length-take, length-drop) at e)))
    ∙ sym (step_short a.src.now a.at (omega arith) (omega arith)))
