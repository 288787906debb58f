-- After i ports the table is that of i ports, and so are the rows of signals.
use Rattle.std.proofs.Common.{length}
use Rattle.laws.specs.Filled.{Filled}
use Rattle.conference.specs.Ports.{rls_from, rhs_from, decoder_from}
use Rattle.mixer.proofs.Laws.{Upto}
use Rattle.mixer.proofs.hear_all.Given as goal

abbrev pub invariant-loop-i : goal.invariant-loop-i
invariant-loop-i l =
    let f = l.fn in
    record {
      table : Upto decoder_from f.decoders f.octets l.decoders l.i;
      lows : Filled (rls_from f.decoders f.modes f.octets) (length f.octets) l.low l.i;
      highs : Filled (rhs_from f.decoders f.octets) (length f.octets) l.high l.i;
    }
