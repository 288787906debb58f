-- The signal by the prediction, and the band after the word.
use Rattle.std.proofs.Common.{◌≡◌, rules}
use Rattle.g722.specs.Arithmetic.{add, limited}
use Rattle.plain.proofs.Laws.{band_heard}
use Rattle.plain.proofs.heard.heard.Goals as goal

pub returns : goal.returns
returns g c =
    let signal : c.limit.result ≡ limited (add c.estimate-e.result.s c.args.d) = search rules in
    band_heard g.B.SubBand.own c.args.s c.estimate-e.ensures c.args.word c.after.ensures c.args.d signal
