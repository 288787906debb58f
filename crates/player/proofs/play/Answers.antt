-- The steps are lent a part of the block and a part of the samples, and each way out is a case of the definition.
use Rattle.std.proofs.Common.{◌≡◌, refl, sym, ap, ◌∙◌, ◌++◌, ◌*◌, ◌-◌, ◌<◌, ◌^◌, Ok, Err, drop, get_or, true, false, arith, rules, pos}
use Rattle.std.specs.Int.Signed.{mag}
use Rattle.laws.specs.Back.{back16}
use Rattle.laws.specs.Outcome.{does}
use Rattle.g722.specs.Answers.{Decoded, answered}
use Rattle.g722.specs.Records.{good_decoder}
use Rattle.g722.specs.Decoding.{decoded}
use Rattle.g722.proofs.Tells.{refused_number}
use Rattle.block.proofs.Tells.{read_index}
use Rattle.block.specs.Read.{BlockRead, read_as}
use Rattle.playing.proofs.PlayCalls.{play_unread, play_narrow, play_broken}
use Rattle.player.proofs.Laws.{bounds, ready, played, as_reported, unread}
use Rattle.player.proofs.play.Goals as goal

pub returns-in_err-header : goal.returns-in_err-header
returns-in_err-header c =
    let r = c.in_err-header.field-0.0 in
    let e = c.in_err-header.ensures in
    let none = ap (λ (b : BlockRead). b.index) e ∙ read_index c.args.b.now in
    let f : c.from_residual.result ≡ Err r = search rules in
    rw f (does (play_unread _ _ _ _ e (refused_number r)) (unread c.args.p r none) refl)

pub overflow_mul-size : goal.overflow_mul-size
overflow_mul-size c = omega (arith, (bounds c.args.b.now _ c.in_ok-header.ensures refl).says.count_most)

pub returns-then-samples-size : goal.returns-then-samples-size
returns-then-samples-size c = does (play_narrow _ _ _ _ c.in_ok-header.ensures refl (omega arith)) refl refl

pub returns-then-not-good_decoder : goal.returns-then-not-good_decoder
returns-then-not-good_decoder c =
    let broken : good_decoder c.args.p.decoder ≡ false = sym c.good_decoder.ensures ∙ c.if-not-good_decoder.true in
    does (play_broken _ _ _ _ c.in_ok-header.ensures refl (omega arith) broken) refl refl

pub slice_bounds-heard_and_joined-end : goal.slice_bounds-heard_and_joined-end
slice_bounds-heard_and_joined-end c =
    let within = bounds c.args.b.now _ c.in_ok-header.ensures refl in
    omega (arith, within.says.count_most, within.size)

pub heard_and_joined-requires-clause-allowed : goal.heard_and_joined-requires-clause-allowed
heard_and_joined-requires-clause-allowed c =
    let good : good_decoder c.args.p.decoder ≡ true = sym c.good_decoder.ensures ∙ c.if-not-good_decoder.false in
    (ready _ _ c.in_ok-header.ensures refl c.args.p c.args.samples.now (omega arith) good c.decoder_for-d.ensures).0

-- decoding these octets is never refused
pub returns-in_err-done : goal.returns-in_err-done
unfolding decoded
returns-in_err-done c = absurd (refused_number c.in_err-done.field-0.0 (ap (λ (a : Decoded). a.number) c.in_err-done.ensures.answer))

pub slice_copy_out-result : goal.slice_copy_out-result
slice_copy_out-result c = omega (arith, (bounds c.args.b.now _ c.in_ok-header.ensures refl).says.count_least)

pub overflow_sub-result : goal.overflow_sub-result
overflow_sub-result c = omega (arith, (bounds c.args.b.now _ c.in_ok-header.ensures refl).says.count_least)

pub slice_copy_out-result-2 : goal.slice_copy_out-result-2
slice_copy_out-result-2 c = omega (arith, (bounds c.args.b.now _ c.in_ok-header.ensures refl).says.count_least)

pub returns : goal.returns
returns c =
    let good : good_decoder c.args.p.decoder ≡ true = sym c.good_decoder.ensures ∙ c.if-not-good_decoder.false in
    let header = c.in_ok-header.header in
    let done = answered c.decoder_for-d.result (Ok c.in_ok-done.done) in
    let out = c.heard_and_joined.new.samples ++ drop (2 * header.count) c.args.samples.now in
    let first-fits : mag (get_or out 0 (pos 0)) < 2 ^ 15 = search rules in
    let last-fits : mag (get_or out (2 * header.count - 1) (pos 0)) < 2 ^ 15 = search rules in
    played _ _ c.in_ok-header.ensures refl c.args.p c.args.samples.now (omega arith) good c.decoder_for-d.ensures c.in_ok-done.ensures
    (as_reported (read_as (Ok header)) done out (back16 _ first-fits) (back16 _ last-fits))
