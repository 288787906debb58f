-- The word by the prediction, and the band after it.
use Rattle.std.proofs.Common.{◌≡◌, rules}
use Rattle.g722.specs.Arithmetic.{sub}
use Rattle.quant.specs.Own.{word_of}
use Rattle.plain.proofs.Laws.{band_coded}
use Rattle.plain.proofs.coded.coded.Goals as goal

pub returns : goal.returns
returns g c =
    let own = g.B.SubBand.own in
    let word : c.quant-word.result ≡ word_of own (sub c.args.x c.estimate-e.result.s) c.args.s.factors.scale = search rules in
    band_coded own c.args.s c.estimate-e.ensures c.quant-word.result c.after.ensures c.args.x word
