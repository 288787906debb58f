-- What is left to do, from the band that the locals stand for, gives the whole.
use Rattle.std.proofs.Common.{◌≡◌, ◌≤◌, length}
use Rattle.laws.specs.Machine.{SoFar}
use Rattle.idle.specs.Recursive.{poles_of}
use Rattle.idle.specs.Factors.{factors_of}
use Rattle.sweep.specs.Turn.{band_of}
use Rattle.sweep.proofs.run.run.Given as goal

abbrev pub invariant-loop-i : goal.invariant-loop-i
invariant-loop-i g l =
    record {
      within : l.i ≤ length l.fn.ys;
      turns : l.rows.1 ≡ l.i;
      going : SoFar (g.E.End.out l.fn.end) (g.E.End.next l.fn.end) l.fn.s l.fn.xs l.fn.ys
          (band_of l.rows.0 (poles_of l.p) (factors_of l.f)) l.ys l.i;
    }
