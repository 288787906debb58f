-- A band heard, with what is the low band's own.
use Rattle.std.proofs.Common.{◌≡◌, ◌∙◌, rules}
use Rattle.g722.specs.Octet.{low_word}
use Rattle.g722.specs.Quantise.{invqbl}
use Rattle.quant.specs.Own.{low_own}
use Rattle.plain.specs.Step.{heard_in, low_is_heard}
use Rattle.plain.proofs.heard.low_heard.Goals as goal

pub returns : goal.returns
returns c =
    let s = c.args.s in
    let il = low_word c.args.o in
    let heard : c.heard.result ≡ heard_in low_own s il (invqbl c.args.mode il s.factors.scale) = search rules in
    heard ∙ low_is_heard c.args.mode s c.args.o
