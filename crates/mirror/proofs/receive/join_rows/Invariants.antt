-- The pairs of samples so far, and how many of them were limited.
use Rattle.std.proofs.Common.{ℕ, ◌/◌, length}
use Rattle.g722.specs.Arithmetic.{limit}
use Rattle.mirror.specs.Rows.{first_at, second_at}
use Rattle.mirror.proofs.Loops.{Paired, Counting}
use Rattle.mirror.proofs.receive.join_rows.Given as goal

abbrev pub invariant-loop-i : goal.invariant-loop-i
invariant-loop-i l =
    let n = length l.fn.samples / 2 in
    record {
      pairs : Paired (λ (k : ℕ). limit (first_at l.xd k)) (λ (k : ℕ). limit (second_at l.xs k)) n l.samples l.i;
      count : Counting (first_at l.xd) (second_at l.xs) n l.limited l.i;
    }
