-- The plain sum so far, and that of its positive terms.
use Rattle.std.proofs.Common.{length}
use mathlib.Core.List.{zip_with}
use Rattle.idle.specs.Plain.{raw}
use Rattle.lanes.proofs.Adding.{Adding}
use Rattle.lanes.proofs.plain.Given as goal

abbrev pub invariant-loop-b : goal.invariant-loop-b
invariant-loop-b l = Adding (zip_with raw l.fn.b l.fn.d) l.sum l.high (length l.yielded)
