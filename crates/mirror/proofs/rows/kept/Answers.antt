-- `mirror::kept` meets its contract: the samples are copied in turn from both rows.
use Rattle.std.proofs.Common.{rules, tests, ◌∙◌, zero-add, ℕ, ◌+◌, ◌/◌, ◌%◌, cond, eqb}
use Rattle.mirror.specs.Rows.{nth}
use Rattle.arith.proofs.Made.{made}
use Rattle.mirror.proofs.Calls.{turned, turned_long}
use Rattle.mirror.proofs.rows.kept.Goals as goal

pub returns : goal.returns
returns c =
    let even = c.args.even.now in
    let odd = c.args.odd.now in
    let n = c.args.n in
    made _ (λ k. cond (eqb (k % 2) 0) (nth even (n + k / 2)) (nth odd (n + k / 2))) _ (λ i r q k. search (rules, tests)) c.from_fn.result
    22 c.from_fn.ensures.items _ (turned_long _ _ 11 0)
    (λ k h. let z = zero-add (k / 2) in turned (λ (m : ℕ). nth even (n + m)) (λ (m : ℕ). nth odd (n + m)) 11 0 k h
    ∙ λ j. cond (eqb (k % 2) 0) (nth even (n + z j)) (nth odd (n + z j)))
