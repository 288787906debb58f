-- After each octet both bands are equal at both ends, as far as the first step of decoding goes.
-- Assumes nothing.
use Rattle.std.specs.Prelude.{◌≡◌, ℕ, zero, suc, ◌*◌, ℤ, take}
use Rattle.std.proofs.Common.{arith}
use mathlib.Core.List.{List, [], ◌∷◌, map, head-eq_of_cons-eq, tail-eq_of_cons-eq, nil≢cons, cons≢nil}
use Rattle.std.proofs.Math.Seq.{take-nil}
use Rattle.g722.specs.Coding.{octets_of, coder_step, coder_after}
use Rattle.g722.specs.Steps.{band_after, heard_after}
use Rattle.facts.specs.Upper.{upper_six}
use Rattle.g722.specs.declared.Coder.{Coder}
use Rattle.g722.specs.declared.Decoder.{Decoder}
use Rattle.promises.proofs.SameBands.{SameBands, same_samples}

-- THE THEOREM, of the first step: after n octets, where the first n came as they were sent as far as their upper six bits go
pub same_heard : (n : ℕ) (c : Coder) (d : Decoder) (s : List ℤ) (os : List ℕ) → SameBands c d
    → take n (map upper_six (octets_of c s)) ≡ take n (map upper_six os)
    → SameBands (coder_after c (take (2 * n) s)) (heard_after d (take n os))
unfolding octets_of coder_after heard_after band_after
same_heard zero c d s os b e = b
same_heard (suc n) c d [] [] b e = rw (take-nil (2 * suc n)) b
same_heard (suc n) c d [] (o ∷ os) b e = absurd (nil≢cons e)
same_heard (suc n) c d (x ∷ []) [] b e = let k : 2 * suc n ≡ suc (suc (2 * n)) = omega arith in rw k b
same_heard (suc n) c d (x ∷ []) (o ∷ os) b e = absurd (nil≢cons e)
same_heard (suc n) c d (x ∷ y ∷ s) [] b e = absurd (cons≢nil e)
same_heard (suc n) c d (x ∷ y ∷ s) (o ∷ os) b e =
    let k : 2 * suc n ≡ suc (suc (2 * n)) = omega arith in
    rw k (same_heard n (coder_step c x y) (heard_after d (o ∷ [])) s os (same_samples c d x y o b (head-eq_of_cons-eq e)) (tail-eq_of_cons-eq e))
