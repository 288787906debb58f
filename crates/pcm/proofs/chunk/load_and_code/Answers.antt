-- `pcm::load_and_code` meets its contract: the load reads all bytes, and the call codes their samples.
use mathlib.Core.Path.{sym, ap, ◌∙◌}
use mathlib.Core.List.{List}
use Prim.Native.Nat.{◌/◌}
use native.Mathlib.Omega.{arith}
use lib.IntN.{ℤ, pos}
use lib.ListN.{length, replicate, length-replicate}
use lib.Seq.{length-take-le}
use Rattle.laws.specs.Outcome.{does}
use Rattle.g722.specs.Coding.{code_call}
use Rattle.big_endian.specs.Bytes.{load_all}
use Rattle.pcm.proofs.Calls.{encode_even}
use Rattle.pcm.proofs.chunk.load_and_code.Goals as goal

pub returns : goal.returns
returns g c =
    let a = c.args in
    let room = length-take-le (length a.bytes.now / 2) (replicate g.row.N (pos 1)) (omega (arith, length-replicate g.row.N (pos 1))) in
    let loaded = sym (load_all a.bytes.now _ (omega (arith, room))) ∙ sym c.load.ensures.left in
    does (encode_even _ _ _ c.requires.bytes_len ∙ ap (λ (s : List ℤ). code_call a.c s a.octets.now) loaded)
    c.code.ensures.answer c.code.ensures.left
