-- `host_steps::zelcandry_hear` meets its contract: the record's call between reading the state and writing it.
use mathlib.Core.Path.{ap, sym}
use native.Mathlib.Omega.{arith}
use Rattle.laws.specs.Outcome.{becomes}
use Rattle.g722.specs.Answers.{Decoded}
use Rattle.g722.specs.declared.Decoder.{Decoder}
use Rattle.pcm.specs.Signals.{hear_chunk, hear_index}
use Rattle.state.specs.Layout.{decoder_in, decoder_bytes}
use Rattle.host.specs.Calls.{after_decoding}
use Rattle.host.proofs.Laws.{moves, stays}
use Rattle.host_steps.specs.Calls.{hear_bytes}
use Rattle.host_steps.proofs.Laws.{hear_held}
use Rattle.host_steps.proofs.zelcandry_hear.Goals as goal

pub returns-in-Ok : goal.returns-in-Ok
unfolding after_decoding hear_bytes
returns-in-Ok c =
    let a = c.args in
    let x = hear_chunk (decoder_in a.state.now) a.mode a.octets.now a.low.now a.high.now in
    let did = becomes (ap (λ (r : Decoder). hear_chunk r a.mode a.octets.now a.low.now a.high.now) c.read_decoder.ensures) c.in-Ok.ensures in
    let held = hear_held a.state.now a.mode a.octets.now a.low.now a.high.now (sym (ap (λ (r : Decoded). r.number) did.answer)) in
    moves decoder_bytes a.state.now x did c.accepted.ensures held c.write_decoder.ensures

pub returns-in-Err : goal.returns-in-Err
unfolding after_decoding hear_bytes
returns-in-Err c =
    let a = c.args in
    let x = hear_chunk (decoder_in a.state.now) a.mode a.octets.now a.low.now a.high.now in
    let did = becomes (ap (λ (r : Decoder). hear_chunk r a.mode a.octets.now a.low.now a.high.now) c.read_decoder.ensures) c.in-Err.ensures in
    stays decoder_bytes a.state.now x c.in-Err.refusal did c.refused.ensures
    (omega (arith, hear_index (decoder_in a.state.now) a.mode a.octets.now a.low.now a.high.now))
