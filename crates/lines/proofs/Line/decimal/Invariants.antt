-- What is left to write, before what is held, stays the whole.
use Rattle.std.proofs.Common.{◌≡◌, ◌++◌}
use Rattle.lines.specs.Decimal.{decimal}
use Rattle.lines.specs.Lines.{Sound, held}
use Rattle.lines.proofs.Line.decimal.Given as goal

abbrev pub invariant-loop-rest : goal.invariant-loop-rest
invariant-loop-rest l = record { sound : Sound l.line; whole : decimal l.rest ++ held l.line ≡ decimal l.fn.n ++ held l.fn.self }

abbrev pub decreases-loop-rest : goal.decreases-loop-rest
decreases-loop-rest l = l.rest
