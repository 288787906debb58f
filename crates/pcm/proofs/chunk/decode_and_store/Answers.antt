-- `pcm::decode_and_store` meets its contract: a call that was not refused has all its samples written, a refused one none.
use mathlib.Core.Path.{refl, ap, ◌∙◌}
use Prim.Native.Nat.{◌*◌}
use native.Mathlib.Omega.{arith}
use lib.IntN.{pos}
use lib.ListN.{length, replicate, length-replicate}
use lib.Seq.{length-take-le}
use Rattle.std.proofs.lemmas.Result.{err_from_is_err_and}
use Rattle.laws.specs.Outcome.{does}
use Rattle.big_endian.specs.Bytes.{pcm_bytes, store_all}
use Rattle.pcm.specs.Chunks.{as_bytes}
use Rattle.pcm.proofs.Calls.{refuses, decode_done, decode_refused}
use Rattle.pcm.proofs.chunk.decode_and_store.Goals as goal

pub returns-in_err-accepted : goal.returns-in_err-accepted
returns-in_err-accepted g c =
    let a = c.args in
    let room = length-take-le (2 * length a.octets.now) (replicate g.row.N (pos 1)) (omega (arith, length-replicate g.row.N (pos 1))) in
    let call = c.in_err-accepted.ensures.answer in
    let told = err_from_is_err_and c.from_residual.result c.from_residual.ensures.1 in
    rw (told.1, told.2) (does (decode_refused a.d a.told a.octets.now a.bytes.now _ room c.requires.bytes_len call (refuses _)) call refl)

pub returns : goal.returns
unfolding as_bytes
returns g c =
    let a = c.args in
    let room = length-take-le (2 * length a.octets.now) (replicate g.row.N (pos 1)) (omega (arith, length-replicate g.row.N (pos 1))) in
    let call = c.in_ok-accepted.ensures in
    does (decode_done a.d a.told a.octets.now a.bytes.now _ room c.requires.bytes_len call.answer refl) call.answer
    (c.store.ensures.left ∙ store_all _ _ (omega arith) ∙ ap pcm_bytes call.left)
