-- Neither step refuses, and the two in turn decode.
use Rattle.std.proofs.Common.{refl, ap, Ok}
use Rattle.g722.specs.Answers.{Decoded, answered}
use Rattle.g722.specs.Decoding.{decoded}
use Rattle.g722.specs.Steps.{heard}
use Rattle.g722.proofs.Tells.{refused_number}
use Rattle.player.proofs.Laws.{hear_run, stepped, whoever}
use Rattle.player.proofs.in_steps.Goals as goal

pub returns-in_err-heard : goal.returns-in_err-heard
unfolding heard
returns-in_err-heard c =
    let asked = c.requires in
    let h = rw (hear_run _ c.args.d _ asked.allowed.0 asked.allowed.1 _ _ asked.low_len.0 asked.low_len.1) at c.in_err-heard.ensures in
    absurd (refused_number c.in_err-heard.field-0.0 (ap (λ (a : Decoded). a.number) h.answer))

pub returns : goal.returns
unfolding decoded
returns c =
    let asked = c.requires in
    let first = answered c.args.d (Ok c.in_ok-heard.heard) in
    let joined = stepped _ c.args.d _ asked.allowed.0 asked.allowed.1 _ _ _ {first = first} asked.low_len.0 asked.low_len.1 asked.samples_len
    c.in_ok-heard.ensures c.join.ensures in
    whoever c.in_ok-heard.heard.next c.args.d c.join.result refl joined
