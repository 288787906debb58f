-- `pcm::hear_and_store` meets its contract: a call that was not refused has all its signals written, a refused one none.
use mathlib.Core.Path.{refl, ◌∙◌}
use native.Mathlib.Omega.{arith}
use lib.IntN.{pos}
use lib.ListN.{length, replicate, length-replicate}
use lib.Seq.{length-take-le}
use Rattle.std.proofs.lemmas.Result.{err_from_is_err_and}
use Rattle.laws.specs.Outcome.{does}
use Rattle.big_endian.specs.Bytes.{store_all}
use Rattle.pcm.specs.Signals.{both_as_bytes}
use Rattle.pcm.proofs.Calls.{refuses}
use Rattle.pcm.proofs.Steps.{fits, hear_done, hear_refused, both_stored}
use Rattle.pcm.proofs.signals.hear_and_store.Goals as goal

pub returns-in_err-accepted : goal.returns-in_err-accepted
returns-in_err-accepted g c =
    let a = c.args in
    let room = length-take-le (length a.octets.now) (replicate g.row.N (pos 1)) (omega (arith, length-replicate g.row.N (pos 1))) in
    let fit = fits _ _ _ c.requires.fit in
    let call = c.in_err-accepted.ensures.answer in
    let told = err_from_is_err_and c.from_residual.result c.from_residual.ensures.1 in
    rw (told.1, told.2)
    (does (hear_refused a.d a.told a.octets.now a.low.now a.high.now _ _ room room fit.1 fit.2 call (refuses _)) call refl)

pub returns : goal.returns
unfolding both_as_bytes
returns g c =
    let a = c.args in
    let room = length-take-le (length a.octets.now) (replicate g.row.N (pos 1)) (omega (arith, length-replicate g.row.N (pos 1))) in
    let fit = fits _ _ _ c.requires.fit in
    let call = c.in_ok-accepted.ensures in
    let low = c.store.ensures.left ∙ store_all _ _ (omega arith) in
    let high = c.store-2.ensures.left ∙ store_all _ _ (omega arith) in
    does
    (hear_done a.d a.told a.octets.now a.low.now a.high.now _ _ room room fit.1 fit.2 call.answer refl)
    call.answer (both_stored call.left low high)
