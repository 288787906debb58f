-- What was done of the pairs so far: past the last, of all.
use mathlib.Core.Path.{◌≡◌}
use Prim.Native.Nat.{◌*◌, ◌-◌, ◌+◌}
use lib.ListN.{length, take}
use Rattle.laws.specs.Outcome.{Does}
use Rattle.facts.specs.Blocks.{done}
use Rattle.g722.specs.Steps.{joined}
use Rattle.decoder.proofs.samples.join_all.Given as goal

abbrev pub invariant-loop-at : goal.invariant-loop-at
invariant-loop-at l =
    record {
      same_length : length l.samples ≡ length l.fn.samples;
      so_far : Does (joined l.fn.d.decoder (take l.at l.low) (take l.at l.high)) (done l.limited l.next.decoder) (take (2 * l.at) l.samples);
    }

abbrev pub decreases-loop-at : goal.decreases-loop-at
decreases-loop-at l = length l.fn.low + 160 - l.at
