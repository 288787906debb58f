-- `sweep::rows::put` meets its contract, by that of `copy_from_slice`.
use Rattle.std.proofs.Common.{◌++◌, ◌+◌, take, arith}
use borrow.Rule.Slice.PartMut.{Post-is}
use Rattle.sweep.proofs.rows.put.Goals as goal

pub returns : goal.returns
returns c =
    let at = c.args.at in
    let b = c.args.b.now in
    λ j. take at b ++ (c.copy_from_slice.ensures.after j ++ Post-is at (at + 8) b (omega arith) j)
