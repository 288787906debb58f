-- What was done of the pairs so far: past the last, of all.
use mathlib.Core.Path.{◌≡◌}
use Prim.Native.Nat.{◌*◌, ◌-◌, ◌+◌}
use lib.ListN.{length, take}
use Rattle.laws.specs.Outcome.{Does}
use Rattle.facts.specs.Blocks.{coder_done}
use Rattle.g722.specs.Coding.{coded}
use Rattle.coder.proofs.run.Given as goal

abbrev pub invariant-loop-at : goal.invariant-loop-at
invariant-loop-at l =
    record {
      same_length : length l.octets ≡ length l.fn.octets;
      so_far : Does (coded l.fn.c.coder (take (2 * l.at) l.samples)) (coder_done l.limited l.next.coder) (take l.at l.octets);
    }

abbrev pub decreases-loop-at : goal.decreases-loop-at
decreases-loop-at l = length l.fn.octets + 160 - l.at
