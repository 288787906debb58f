-- `big_endian::load` meets its contract: two's complement is the number of the two bytes, less 65536 from 32768 up.
use Rattle.std.proofs.Common.{◌≡◌, ◌∙◌, ap, arith, List, [], ◌∷◌, ℕ, ℤ, ◌+◌, ◌*◌, ◌/◌, ◌<◌, to_z, length, get_or}
use Rattle.std.proofs.Common.{length-take}
use Rattle.std.specs.Int.{w16}
use Rattle.std.proofs.lemmas.Bool.Decides.{nat_tests}
use Rattle.std.proofs.lemmas.Int.{ints}
use Rattle.laws.specs.Back.{back16}
use Rattle.big_endian.specs.Bytes.{sample_of}
use Rattle.big_endian.proofs.Turns.{load_turn, pair_at}
use Rattle.big_endian.proofs.samples.load.Goals as goal

of_word : (high low : ℕ) → high < 256 → low < 256 → to_z w16 (high * 256 + low) ≡ sample_of high low
unfolding sample_of
of_word high low h l = grind (arith, ints, nat_tests)

pub loop-i-preserved : goal.loop-i-preserved
loop-i-preserved c =
    let i = c.loop-i.i in
    let b = c.args.bytes.now in
    let high = get_or b (2 * i) 0 in
    let low = get_or b (2 * i + 1) 0 in
    let front = c.as_chunks.ensures.front in
    let inside : i < length b / 2 = omega (arith, c.as_chunks.ensures.front_len, length-take {A = ℤ}) in
    let pair : get_or c.as_chunks.result.0.now i [] ≡ high ∷ low ∷ [] =
    ap (λ (ps : List (List ℕ)). get_or ps i []) front ∙ pair_at (length b / 2) i b [] inside (omega arith) in
    let word : c.from_be_bytes.result ≡ sample_of high low =
    c.from_be_bytes.ensures ∙ rw pair (of_word high low (c.type_inv.bytes (2 * i)).fits (c.type_inv.bytes (2 * i + 1)).fits) in
    load_turn i b _ (omega arith) c.loop-i-test.true c.loop-i.invariant (back16 _ c.from_be_bytes.type_inv ∙ word)
