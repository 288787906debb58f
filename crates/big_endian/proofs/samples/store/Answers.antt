-- `big_endian::store` meets its contract: the bits of a number are its word.
use Rattle.std.proofs.Common.{◌≡◌, ◌∙◌, ap, ap₂, arith, suc, take, [], ◌∷◌, ℕ, ◌/◌, ◌%◌, ◌-◌, ◌^◌, ◌<◌, ℤ, pos, negsuc, get_or}
use Rattle.std.proofs.Common.{get_or-take, length-take, rules, SFits, of_z, to_z-of_z}
use Rattle.std.specs.Int.{w16, to_be_bytes}
use Rattle.big_endian.specs.Bytes.{word_of, high_of, low_of}
use Rattle.big_endian.proofs.Turns.{store_turn}
use Rattle.big_endian.proofs.samples.store.Goals as goal

bytes_of : (z : ℤ) → SFits w16 z → to_be_bytes w16 (of_z w16 z) ≡ high_of z ∷ low_of z ∷ []
unfolding high_of low_of word_of
bytes_of (pos n) f =
    let a : n / 2 ^ 8 % 256 ≡ n / 256 = omega (arith, f.sfits) in
    ap (λ (x : ℕ). x ∷ n % 256 ∷ []) a
bytes_of (negsuc n) f =
    let a : (65536 - suc n) / 2 ^ 8 % 256 ≡ (65535 - n) / 256 = omega (arith, f.sfits) in
    let b : (65536 - suc n) % 256 ≡ (65535 - n) % 256 = omega (arith, f.sfits) in
    ap₂ (λ (x y : ℕ). x ∷ y ∷ []) a b

pub loop-i-preserved : goal.loop-i-preserved
loop-i-preserved c =
    let i = c.loop-i.i in
    let s = c.args.samples.now in
    let n = c.min-n.result in
    let inside : i < n = omega (arith, length-take n s) in
    let f : SFits w16 (get_or (take n s) i (pos 0)) = search rules in
    store_turn i c.args.bytes.now s (omega (arith, inside)) (omega (arith, inside)) c.loop-i.invariant
    (c.copy_from_slice.ensures.after
    ∙ c.to_be_bytes.ensures
    ∙ rw (to_z-of_z f) (bytes_of (get_or (take n s) i (pos 0)) f)
    ∙ ap (λ (z : ℤ). high_of z ∷ low_of z ∷ []) (get_or-take n s i (pos 0) inside))
