-- The sum so far, with its bound.
use Prim.Native.Nat.{ℕ, ◌+◌, ◌*◌, ◌-◌}
use Rattle.g722.specs.Mirror.{coefficient}
use Rattle.mirror.specs.Rows.{nth}
use Rattle.mirror.proofs.Sums.{Summed}
use Rattle.mirror.proofs.taps.Given as goal

abbrev pub invariant-loop-j : goal.invariant-loop-j
invariant-loop-j l = Summed (λ (k : ℕ). coefficient (2 * k + l.phase)) (λ (k : ℕ). nth l.x (l.i + 11 - k)) l.sum l.j
