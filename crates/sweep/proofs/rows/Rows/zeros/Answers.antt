-- `sweep::rows::Rows::zeros` meets its contract, by that of `taken`.
use Rattle.std.proofs.Common.{◌∙◌, ap, ℕ}
use Rattle.g722.specs.declared.Zeros.{Zeros}
use Rattle.idle.specs.Rows.{zeros_at}
use Rattle.sweep.proofs.rows.Rows.zeros.Goals as goal

pub returns : goal.returns
unfolding zeros_at
returns c =
    (λ j. record { b = c.taken.ensures j; d = c.taken-2.ensures j }) ∙ ap (λ (v : Zeros × ℕ). v.0) c.self.view_is
