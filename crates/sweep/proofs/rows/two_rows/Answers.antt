-- `sweep::rows::two_rows` meets its contract, by that of `copy_from_slice`.
use Rattle.std.proofs.Common.{List, ◌++◌, ap, ℤ, pos, replicate}
use Rattle.sweep.proofs.rows.two_rows.Goals as goal

pub returns : goal.returns
returns c = ap (λ (l : List ℤ). l ++ replicate 10 (pos 0)) c.copy_from_slice.ensures.after
