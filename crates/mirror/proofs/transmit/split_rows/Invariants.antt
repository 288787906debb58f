-- The signals so far, and how many of them were limited.
use Rattle.std.proofs.Common.{ℕ, length}
use Rattle.g722.specs.Arithmetic.{limit}
use Rattle.mirror.specs.Rows.{low_at, high_at}
use Rattle.mirror.proofs.Loops.{Stored, Counting}
use Rattle.mirror.proofs.transmit.split_rows.Given as goal

abbrev pub invariant-loop-i : goal.invariant-loop-i
invariant-loop-i l =
    let n = length l.fn.low in
    record {
      lows : Stored (λ (k : ℕ). limit (low_at l.even l.odd k)) n l.low l.i;
      highs : Stored (λ (k : ℕ). limit (high_at l.even l.odd k)) n l.high l.i;
      count : Counting (low_at l.even l.odd) (high_at l.even l.odd) n l.limited l.i;
    }
