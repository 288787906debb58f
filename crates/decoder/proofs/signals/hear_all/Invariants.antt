-- What was done of the octets so far: past the last, of all.
use mathlib.Core.Path.{◌≡◌}
use Prim.Native.Nat.{◌-◌, ◌+◌}
use lib.ListN.{length, take}
use Rattle.laws.specs.Outcome.{Does}
use Rattle.facts.specs.Blocks.{done}
use Rattle.g722.specs.Steps.{heard}
use Rattle.decoder.proofs.signals.hear_all.Given as goal

abbrev pub invariant-loop-at : goal.invariant-loop-at
invariant-loop-at l =
    record {
      low_length : length l.low ≡ length l.fn.low;
      high_length : length l.high ≡ length l.fn.high;
      so_far : Does (heard l.fn.mode l.fn.d.decoder (take l.at l.octets)) (done l.limited l.next.decoder) (take l.at l.low, take l.at l.high);
    }

abbrev pub decreases-loop-at : goal.decreases-loop-at
decreases-loop-at l = length l.fn.octets + 160 - l.at
