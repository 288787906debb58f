-- `mirror::last` meets its contract: each number is copied from the past ones or from the new ones.
use Rattle.std.proofs.Common.{rules, tests, ◌≡◌, ◌∙◌, ◌+◌, ◌-◌, ◌++◌, cond, ltb, length, arith, length-append, length-drop}
use lib.IntN.{pos}
use lib.Seq.{get_or-drop}
use Rattle.mirror.specs.Rows.{nth}
use Rattle.arith.proofs.Made.{made}
use Rattle.mirror.proofs.Loops.{either}
use Rattle.mirror.proofs.rows.last.Goals as goal

pub returns : goal.returns
returns c =
    let p = c.args.past in
    let x = c.args.x.now in
    let n = length x in
    let l : length p ≡ 11 = search rules in
    made _ (λ i. cond (ltb (n + i) 11) (nth p (n + i)) (nth x (n + i - 11))) _ (λ i r q k. search (rules, tests)) c.from_fn.result
    11 c.from_fn.ensures.items _ (length-drop n (p ++ x) ∙ omega (arith, length-append p x))
    (λ i h. get_or-drop n (p ++ x) i (pos 0) ∙ either p x 11 (n + i) l)
