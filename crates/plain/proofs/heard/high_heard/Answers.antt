-- A band heard, with what is the high band's own.
use Rattle.std.proofs.Common.{◌≡◌, ◌∙◌, rules}
use Rattle.g722.specs.Octet.{high_word}
use Rattle.quant.specs.Own.{high_own, difference_of}
use Rattle.plain.specs.Step.{heard_in, high_is_heard}
use Rattle.plain.proofs.heard.high_heard.Goals as goal

pub returns : goal.returns
returns c =
    let s = c.args.s in
    let ih = high_word c.args.o in
    let heard : c.heard.result ≡ heard_in high_own s ih (difference_of high_own ih s.factors.scale) = search rules in
    heard ∙ high_is_heard s c.args.o
