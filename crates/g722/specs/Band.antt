-- The adaptive predictor, block 4 of G.722 (11/88), 6.2.1.4 and 6.2.2.4: one for both bands and both ends.
-- `d` is the quantised difference of the loop, DLT or DH.
-- Assumes nothing.
use Rattle.std.specs.Prelude.{cond, ℕ, ℤ, pos, drop}
use mathlib.Core.List.{List, [], ◌∷◌, ◌++◌, zip_with}
use Rattle.laws.specs.Clamp.{clamp}
use Rattle.g722.specs.Arithmetic.{neg, shr, add, sub, mul, same_sign, equal}
use Rattle.g722.specs.Quantise.{invqal, invqah, low_factors, high_factors}
use Rattle.g722.specs.declared.Zeros.{Zeros}
use Rattle.g722.specs.declared.Poles.{Poles}
use Rattle.g722.specs.declared.Factors.{Factors}
use Rattle.g722.specs.declared.Band.{Band}

-- the newest joins a row of past values, and the oldest leaves it
unfoldable pub slide : List ℤ → ℤ → List ℤ
slide past x = drop 1 (past ++ (x ∷ []))

-- FILTEZ: WDi = BLi * (DLTi + DLTi), summed from the oldest on, ((WD6 + WD5) + WD4) + .., with a stop at each sum
unfoldable pub term : ℤ → ℤ → ℤ
term b d = mul b (add d d)

unfoldable pub sums : ℤ → List ℤ → ℤ
sums s [] = s
sums s (wd ∷ wds) = sums (add s wd) wds

unfoldable pub filtez : Zeros → ℤ
filtez z = sums (pos 0) (zip_with term z.b z.d)

-- FILTEP
unfoldable pub filtep : Poles → ℤ
filtep s = add (term s.a1 s.r1) (term s.a2 s.r2)

-- PREDIC
unfoldable pub predic : Band → ℤ
predic s = add (filtep s.poles) (filtez s.zeros)

-- PARREC
unfoldable pub parrec : Band → ℤ → ℤ
parrec s d = add d (filtez s.zeros)

-- RECONS
unfoldable pub recons : Band → ℤ → ℤ
recons s d = add (predic s) d

-- UPZERO: the gain WD1, WD2 with its sign, WD3 = BLi * 32640, and one coefficient's next value BPLi = WD2 + WD3
unfoldable pub gain : ℤ → ℤ
gain d = cond (equal d (pos 0)) (pos 0) (pos 128)

unfoldable pub upzero : ℤ → ℤ → ℤ → ℤ
upzero d bi di = add (cond (same_sign d di) (gain d) (sub (pos 0) (gain d))) (mul bi (pos 32640))

-- UPPOL2: WD1 = AL1 doubled twice; WD2 = WD1 with its sign turned where P and P1 agree, shifted right by 7;
-- WD3 = ±128; WD4 = WD2 + WD3; WD5 = AL2 * 32512; and their sum limited, APL2
unfoldable pub four : ℤ → ℤ
four a1 = add (add a1 a1) (add a1 a1)

unfoldable pub turned : Poles → ℤ → ℤ
turned s p = shr (cond (same_sign p s.p1) (sub (pos 0) (four s.a1)) (four s.a1)) 7

unfoldable pub uppol2 : Poles → ℤ → ℤ
uppol2 s p =
    clamp (neg 12288) (pos 12288)
    (add (add (turned s p) (cond (same_sign p s.p2) (pos 128) (neg 128))) (mul s.a2 (pos 32512)))

-- UPPOL1, after the new second coefficient: WD1 = ±192, WD2 = AL1 * 32640, and their sum held within WD3 = 15360 - APL2 at both ends
unfoldable pub reach : ℤ → ℤ
reach apl2 = sub (pos 15360) apl2

unfoldable pub uppol1 : Poles → ℤ → ℤ → ℤ
uppol1 s apl2 p =
    clamp (sub (pos 0) (reach apl2)) (reach apl2)
    (add (cond (same_sign p s.p1) (pos 192) (neg 192)) (mul s.a1 (pos 32640)))

-- the next records: DELAYA and its like
unfoldable pub next_zeros : Zeros → ℤ → Zeros
next_zeros z d = record { b = zip_with (upzero d) z.b z.d; d = slide z.d d }

unfoldable pub next_poles : Poles → ℤ → ℤ → Poles
next_poles s p r =
    record { a1 = uppol1 s (uppol2 s p) p; a2 = uppol2 s p; r1 = r; r2 = s.r1; p1 = p; p2 = s.p1 }

unfoldable pub next_band : Band → ℤ → Factors → Band
next_band s d f =
    record { zeros = next_zeros s.zeros d; poles = next_poles s.poles (parrec s d) (recons s d); factors = f }

-- each band after its word, at either end
unfoldable pub low_after : Band → ℕ → Band
low_after s il = next_band s (invqal il s.factors.scale) (low_factors s.factors il)

unfoldable pub high_after : Band → ℕ → Band
high_after s ih = next_band s (invqah ih s.factors.scale) (high_factors s.factors ih)
