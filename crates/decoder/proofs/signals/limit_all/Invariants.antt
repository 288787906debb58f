-- The signals so far, and then those that are left to limit, are the whole.
use mathlib.Core.Path.{◌≡◌}
use mathlib.Core.List.{◌++◌, map}
use Prim.Native.Nat.{◌+◌}
use lib.ListN.{take, drop}
use Rattle.g722.specs.Arithmetic.{limit, overloads}
use Rattle.decoder.proofs.signals.limit_all.Given as goal

abbrev pub invariant-loop-signal : goal.invariant-loop-signal
invariant-loop-signal l =
    record {
      written : take l.signal-index l.signal-items ++ map limit (drop l.signal-index l.signal-items) ≡ map limit l.fn.x;
      counted : l.limited + overloads (drop l.signal-index l.signal-items) ≡ overloads l.fn.x;
    }
