-- The octets so far, and then what is left to put together, are the whole.
use Rattle.std.proofs.Common.{◌≡◌, length, take, drop, ◌++◌}
use mathlib.Core.List.{zip_with}
use Rattle.coder.specs.ByBand.{together}
use Rattle.coder.proofs.bands.put_together.Given as goal

abbrev pub invariant-loop-i : goal.invariant-loop-i
invariant-loop-i l =
    record {
      same_length : length l.octets ≡ length l.initial.octets;
      whole : take l.i l.octets ++ zip_with together (drop l.i l.words) (drop l.i l.octets) ≡ zip_with together l.words l.initial.octets;
    }
