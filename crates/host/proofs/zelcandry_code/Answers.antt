-- `host::zelcandry_code` meets its contract: the record's call between reading the state and writing it.
use mathlib.Core.Path.{ap, sym}
use native.Mathlib.Omega.{arith}
use Rattle.laws.specs.Outcome.{becomes}
use Rattle.g722.specs.Answers.{Coded}
use Rattle.g722.specs.declared.Coder.{Coder}
use Rattle.pcm.specs.Chunks.{encode_chunk, index_small}
use Rattle.state.specs.Layout.{coder_in, coder_bytes}
use Rattle.host.specs.Calls.{after_coding, code_bytes}
use Rattle.host.proofs.Laws.{moves, stays, coder_held}
use Rattle.host.proofs.zelcandry_code.Goals as goal

pub returns-in-Ok : goal.returns-in-Ok
unfolding after_coding code_bytes
returns-in-Ok c =
    let a = c.args in
    let x = encode_chunk (coder_in a.state.now) a.samples.now a.octets.now in
    let did = becomes (ap (λ (r : Coder). encode_chunk r a.samples.now a.octets.now) c.read_coder.ensures) c.in-Ok.ensures in
    let held = coder_held a.state.now a.samples.now a.octets.now (sym (ap (λ (r : Coded). r.number) did.answer)) in
    moves coder_bytes a.state.now x did c.accepted.ensures held c.write_coder.ensures

pub returns-in-Err : goal.returns-in-Err
unfolding after_coding code_bytes
returns-in-Err c =
    let a = c.args in
    let x = encode_chunk (coder_in a.state.now) a.samples.now a.octets.now in
    let did = becomes (ap (λ (r : Coder). encode_chunk r a.samples.now a.octets.now) c.read_coder.ensures) c.in-Err.ensures in
    stays coder_bytes a.state.now x c.in-Err.refusal did c.refused.ensures
    (omega (arith, index_small (coder_in a.state.now) a.samples.now a.octets.now))
