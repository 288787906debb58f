-- After i ports the table is that of i ports, and so is the row of octets.
use Rattle.std.proofs.Common.{length}
use mathlib.Core.List.{zip_with}
use Rattle.laws.specs.Filled.{Filled}
use Rattle.facts.specs.Overload.{Counted}
use Rattle.conference.specs.Ports.{octet_to, coder_to}
use Rattle.conference.specs.Tick.{sums_limited}
use Rattle.mixer.proofs.Laws.{Upto, heards, sums_left}
use Rattle.mixer.proofs.send_all.Given as goal

abbrev pub invariant-loop-i : goal.invariant-loop-i
invariant-loop-i l =
    let f = l.fn in
    record {
      table : Upto coder_to f.coders (heards f.low f.high) l.coders l.i;
      octets : Filled (zip_with octet_to f.coders (heards f.low f.high)) (length f.low) l.room l.i;
      count : Counted l.limited (sums_left f.low f.high l.i) (sums_limited f.low f.high) l.i;
    }
