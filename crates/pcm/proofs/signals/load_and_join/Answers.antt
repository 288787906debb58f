-- `pcm::load_and_join` meets its contract: the loads read all bytes, and a call that was not refused has all its samples written.
use mathlib.Core.Path.{◌≡◌, refl, ap, ap₂, ◌∙◌}
use mathlib.Core.List.{List}
use Prim.Native.Nat.{◌*◌, ◌/◌}
use native.Mathlib.Omega.{arith}
use lib.IntN.{ℤ, pos}
use lib.ListN.{length, replicate, length-replicate}
use lib.Seq.{length-take-le}
use Rattle.std.proofs.lemmas.Result.{err_from_is_err_and}
use Rattle.laws.specs.Outcome.{Does, does, becomes}
use Rattle.g722.specs.Steps.{join_call}
use Rattle.g722.specs.declared.Decoder.{Decoder}
use Rattle.g722.specs.Answers.{Decoded}
use Rattle.big_endian.specs.Bytes.{pcm_bytes, load_all, store_all}
use Rattle.pcm.specs.Chunks.{as_bytes}
use Rattle.pcm.proofs.Calls.{refuses}
use Rattle.pcm.proofs.Steps.{fits, join_done, join_refused}
use Rattle.pcm.proofs.signals.load_and_join.Goals as goal

-- the call on the signals that the bytes are
did : (d : Decoder) (x : List ℤ) {rl rh low high : List ℤ} {r : Decoded} {l : List ℤ} → rl ≡ low → rh ≡ high
    → Does (join_call d rl rh x) r l → Does (join_call d low high x) r l
did d x e f h = becomes (ap₂ (λ (y z : List ℤ). join_call d y z x) e f) h

pub returns-in_err-accepted : goal.returns-in_err-accepted
returns-in_err-accepted g c =
    let a = c.args in
    let n = length a.low.now / 2 in
    let fit = fits _ _ _ c.requires.fit in
    let pairs = length-take-le n (replicate g.row.N (pos 1)) (omega (arith, length-replicate g.row.N (pos 1))) in
    let room = length-take-le (2 * n) (replicate g.row.M (pos 1)) (omega (arith, length-replicate g.row.M (pos 1))) in
    let low = c.load.ensures.left ∙ load_all a.low.now _ (omega (arith, pairs)) in
    let high = c.load-2.ensures.left ∙ load_all a.high.now _ (omega (arith, pairs)) in
    let done = did a.d _ low high c.in_err-accepted.ensures in
    let told = err_from_is_err_and c.from_residual.result c.from_residual.ensures.1 in
    let refused =
    join_refused a.d a.low.now a.high.now a.samples.now n _ fit.1 fit.2 c.requires.samples_fit room done.answer (refuses _) in
    rw (told.1, told.2) (does refused done.answer refl)

pub returns : goal.returns
unfolding as_bytes
returns g c =
    let a = c.args in
    let n = length a.low.now / 2 in
    let fit = fits _ _ _ c.requires.fit in
    let pairs = length-take-le n (replicate g.row.N (pos 1)) (omega (arith, length-replicate g.row.N (pos 1))) in
    let room = length-take-le (2 * n) (replicate g.row.M (pos 1)) (omega (arith, length-replicate g.row.M (pos 1))) in
    let low = c.load.ensures.left ∙ load_all a.low.now _ (omega (arith, pairs)) in
    let high = c.load-2.ensures.left ∙ load_all a.high.now _ (omega (arith, pairs)) in
    let done = did a.d _ low high c.in_ok-accepted.ensures in
    does
    (join_done a.d a.low.now a.high.now a.samples.now n _ fit.1 fit.2 c.requires.samples_fit room done.answer refl)
    done.answer (c.store.ensures.left ∙ store_all _ _ (omega (arith, room)) ∙ ap pcm_bytes done.left)
