-- Quantising, inverse quantising and the scale factors: blocks 1, 2, 3 and 5 of G.722 (11/88), 6.2, for both bands (SCOPE 26 to 35).
-- Assumes nothing.
use Rattle.std.specs.Prelude.{cond, List, [], ◌∷◌, map, ℕ, suc, ◌+◌, ◌*◌, ◌/◌, eqb, ℤ, pos, get_or, drop}
use Rattle.std.specs.Int.Signed.{mag, le_z}
use Rattle.laws.specs.Clamp.{clamp}
use Rattle.g722.specs.Arithmetic.{neg, add, sub, mul, negative}
use Rattle.g722.specs.Tables.{q6, qq6, qq5, qq4, wl, q2, qq2, wh, ila}
use Rattle.g722.specs.Words.{to_six, to_two, from_six, from_five, from_four, from_two}
use Rattle.g722.specs.declared.Interval.{Interval}
use Rattle.g722.specs.declared.Factors.{Factors}

-- SUBTRA: the difference of the input and its prediction
abbrev pub subtra : ℤ → ℤ → ℤ
subtra x s = sub x s

-- a decision level: (Q << 3) * DET
unfoldable pub level : ℤ → ℕ → ℤ
level det q = mul (pos (q * 8)) det

-- how many levels are at or below a size
unfoldable pub at_or_below : ℕ → List ℤ → ℕ
at_or_below size [] = 0
at_or_below size (l ∷ ls) = cond (le_z l (pos size)) (suc (at_or_below size ls)) (at_or_below size ls)

-- the sign, and 1 plus the number of levels at or below the size: Notes 1 and 2 of QUANTL together
unfoldable pub quantise : List ℕ → ℤ → ℤ → Interval
quantise q e det = record { negative = negative e; number = 1 + at_or_below (mag e) (map (level det) q) }

-- QUANTL: Q6 (1) to Q6 (29)
unfoldable pub quantl : ℤ → ℤ → ℕ
quantl el detl = to_six (quantise (drop 1 q6) el detl)

-- QUANTH: Q2 (1)
unfoldable pub quanth : ℤ → ℤ → ℕ
quanth eh deth = to_two (quantise (drop 1 q2) eh deth)

-- WD1 = QQ << 3, with the sign as WD2, and DET * WD2
unfoldable pub inverse : List ℕ → Interval → ℤ → ℤ
inverse qq v det = mul det (cond v.negative (neg (get_or qq v.number 0 * 8)) (pos (get_or qq v.number 0 * 8)))

-- INVQAL: RIL = IL >>> 2. The loop at both ends uses this difference alone
unfoldable pub invqal : ℕ → ℤ → ℤ
invqal il detl = inverse qq4 (from_four (il / 4)) detl

-- INVQAH
unfoldable pub invqah : ℕ → ℤ → ℤ
invqah ih deth = inverse qq2 (from_two ih) deth

-- a told mode: 0, no indication, is mode 1
unfoldable pub in_force : ℕ → ℕ
in_force told = cond (eqb told 0) 1 told

-- INVQBL: the difference that is heard, by the mode in force. A number that is no mode is taken as 3; no call hands one on
unfoldable pub invqbl : ℕ → ℕ → ℤ → ℤ
invqbl mode ilr detl =
    cond (eqb mode 1) (inverse qq6 (from_six ilr) detl)
    (cond (eqb mode 2) (inverse qq5 (from_five (ilr / 2)) detl)
    (inverse qq4 (from_four (ilr / 4)) detl))

-- the next log factor: NB * 32512, plus the weight, limited
unfoldable pub logsc : ℤ → ℤ → ℤ → ℤ
logsc top w nb = clamp (pos 0) top (add (mul nb (pos 32512)) w)

-- LOGSCL and LOGSCH
unfoldable pub logscl : ℕ → ℤ → ℤ
logscl il nbl = logsc (pos 18432) (get_or wl (from_four (il / 4)).number (pos 0)) nbl

unfoldable pub logsch : ℕ → ℤ → ℤ
logsch ih nbh = logsc (pos 22528) (get_or wh (from_two ih).number (pos 0)) nbh

-- (ILA + 1) << 2 at an address
unfoldable pub scale_at : ℕ → ℤ
scale_at k = pos ((get_or ila k 0 + 1) * 4)

-- the address that a log factor gives, NB >> 6. A log factor is never below 0, so its size is the factor
abbrev pub address : ℤ → ℕ
address nb = mag nb / 64

-- SCALEL and SCALEH, method 1
unfoldable pub scalel : ℤ → ℤ
scalel nbpl = scale_at (address nbpl + 64)

unfoldable pub scaleh : ℤ → ℤ
scaleh nbph = scale_at (address nbph)

-- both factors after a word
unfoldable pub low_factors : Factors → ℕ → Factors
low_factors f il = record { log = logscl il f.log; scale = scalel (logscl il f.log) }

unfoldable pub high_factors : Factors → ℕ → Factors
high_factors f ih = record { log = logsch ih f.log; scale = scaleh (logsch ih f.log) }
