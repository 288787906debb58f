-- `sweep::rows::begin` meets its contract, by that of `copy_from_slice`.
use Rattle.std.proofs.Common.{rules, ◌≡◌, ◌∙◌, ◌++◌, length, take, drop, set, pos, arith}
use Rattle.idle.specs.Rows.{history_begun}
use Rattle.sweep.proofs.rows.begin.Goals as goal

pub returns : goal.returns
returns c =
    let h = c.args.history.now in
    let six : length c.args.d ≡ 6 = search rules in
    (λ j. take 8 (set (set (c.copy_from_slice.ensures.after j ++ drop 6 h) 6 (pos 0)) 7 (pos 0)))
    ∙ history_begun c.args.d h six (omega (arith, c.requires))
