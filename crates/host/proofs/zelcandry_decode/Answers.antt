-- `host::zelcandry_decode` meets its contract: the record's call between reading the state and writing it.
use mathlib.Core.Path.{ap, sym}
use native.Mathlib.Omega.{arith}
use Rattle.laws.specs.Outcome.{becomes}
use Rattle.g722.specs.Answers.{Decoded}
use Rattle.g722.specs.declared.Decoder.{Decoder}
use Rattle.pcm.specs.Chunks.{decode_chunk}
use Rattle.state.specs.Layout.{decoder_in, decoder_bytes}
use Rattle.host.specs.Calls.{after_decoding, decode_bytes}
use Rattle.host.proofs.Laws.{moves, stays, decoder_held, index_none}
use Rattle.host.proofs.zelcandry_decode.Goals as goal

pub returns-in-Ok : goal.returns-in-Ok
unfolding after_decoding decode_bytes
returns-in-Ok c =
    let a = c.args in
    let x = decode_chunk (decoder_in a.state.now) a.mode a.octets.now a.samples.now in
    let did = becomes (ap (λ (r : Decoder). decode_chunk r a.mode a.octets.now a.samples.now) c.read_decoder.ensures) c.in-Ok.ensures in
    let held = decoder_held a.state.now a.mode a.octets.now a.samples.now (sym (ap (λ (r : Decoded). r.number) did.answer)) in
    moves decoder_bytes a.state.now x did c.accepted.ensures held c.write_decoder.ensures

pub returns-in-Err : goal.returns-in-Err
unfolding after_decoding decode_bytes
returns-in-Err c =
    let a = c.args in
    let x = decode_chunk (decoder_in a.state.now) a.mode a.octets.now a.samples.now in
    let did = becomes (ap (λ (r : Decoder). decode_chunk r a.mode a.octets.now a.samples.now) c.read_decoder.ensures) c.in-Err.ensures in
    stays decoder_bytes a.state.now x c.in-Err.refusal did c.refused.ensures
    (omega (arith, index_none (decoder_in a.state.now) a.mode a.octets.now a.samples.now))
