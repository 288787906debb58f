-- What is proved of the definitions' tables and words, each by a check that antt computes.
-- Assumes nothing.
use Rattle.std.specs.Prelude.{◌≡◌, refl, Bool, false, ◌||◌, ◌&&◌, List, [], ◌∷◌, ◌++◌, map, reverse, ℕ, ◌+◌, ◌-◌, ◌*◌, ◌/◌, ◌%◌, ◌^◌, ◌≤◌, ◌<◌, T, eqb, ℤ, pos, ◌+ℤ◌, ◌*ℤ◌, get_or, drop, ◌≤ℤ◌}
use Rattle.std.proofs.Common.{subst, mul-le-mul_right, arith, eqb→eq}
use Rattle.std.proofs.Math.Pow.{shr_mono}
use Rattle.std.specs.Int.Signed.{shr_z, le_z_yes}
use Rattle.laws.specs.Clamp.{clamp_mono}
use Rattle.laws.specs.Every.{below, below_at, each_at}
use Rattle.laws.specs.Order.{le_from}
use Rattle.laws.specs.Rising.{Rising, rising_map}
use Rattle.g722.specs.Arithmetic.{neg, mul}
use Rattle.g722.specs.Tables.{h, q6, qq6, qq5, qq4, wl, q2, qq2, wh, ila, ilb}
use Rattle.g722.specs.Words.{to_six, from_four, from_six, from_five, to_two, from_two}
use Rattle.g722.specs.Quantise.{level}
use Rattle.g722.specs.Mirror.{sum, coefficient}
use Rattle.g722.specs.Printed.{table4, lu6, ql6, ql5, ql4, weight_l, hu, ql2, weight_h}
use Rattle.g722.specs.Printed.{Row, table16, table17, table18, table19, table20, table21}

-- ---- Tables 11 and 14 are the decimals of section 3, scaled and rounded to the nearest

abbrev nearest : ℕ → ℕ → ℤ → ℤ
nearest scale unit x = shr_z (x *ℤ pos scale +ℤ pos (unit / 2)) unit

-- units of 10^-5, at 9 and at 11 places after the binary point
abbrev at9 : List ℤ → List ℤ
at9 xs = map (nearest 512 100000) xs

abbrev at11 : List ℤ → List ℤ
at11 xs = map (nearest 2048 100000) xs

-- a column's entries from address 1 on, as ℤ
abbrev entries : List ℕ → List ℤ
entries xs = map pos (drop 1 xs)

pub h_printed : map (nearest 8192 1000000000) (table4 ++ reverse table4) ≡ h
unfolding h table4
h_printed = refl

pub q6_printed : at9 lu6 ≡ entries q6
unfolding q6 lu6
q6_printed = refl

pub qq6_printed : at9 ql6 ≡ entries qq6
unfolding qq6 ql6
qq6_printed = refl

pub qq5_printed : at9 ql5 ≡ entries qq5
unfolding qq5 ql5
qq5_printed = refl

pub qq4_printed : at9 ql4 ≡ map pos qq4
unfolding qq4 ql4
qq4_printed = refl

pub wl_printed : at11 weight_l ≡ wl
unfolding wl weight_l
wl_printed = refl

pub q2_printed : at9 hu ≡ entries q2
unfolding q2 hu
q2_printed = refl

pub qq2_printed : at9 ql2 ≡ entries qq2
unfolding qq2 ql2
qq2_printed = refl

pub wh_printed : at11 weight_h ≡ drop 1 wh
unfolding wh weight_h
wh_printed = refl

-- ---- the ranges agree with Tables 16 to 21, row by row

pub table16_holds : map (λ (r : Row). to_six r.interval) table16 ≡ map (λ (r : Row). r.word) table16
unfolding table16 to_six
table16_holds = refl

pub table17_holds : map (λ (r : Row). from_four r.word) table17 ≡ map (λ (r : Row). r.interval) table17
unfolding table17 from_four
table17_holds = refl

pub table18_holds : map (λ (r : Row). from_six r.word) table18 ≡ map (λ (r : Row). r.interval) table18
unfolding table18 from_six
table18_holds = refl

pub table19_holds : map (λ (r : Row). from_five r.word) table19 ≡ map (λ (r : Row). r.interval) table19
unfolding table19 from_five
table19_holds = refl

pub table20_holds : map (λ (r : Row). to_two r.interval) table20 ≡ map (λ (r : Row). r.word) table20
unfolding table20 to_two
table20_holds = refl

pub table21_holds : map (λ (r : Row). from_two r.word) table21 ≡ map (λ (r : Row). r.interval) table21
unfolding table21 from_two
table21_holds = refl

-- a row for every word: no word of its width is left out
abbrev named : ℕ → List Row → Bool
named w [] = false
named w (r ∷ rs) = eqb w r.word || named w rs

pub every_word : T (below 16 (λ w. named w table17) && below 64 (λ w. named w table18)
    && below 32 (λ w. named w table19) && below 4 (λ w. named w table21))
unfolding table17 table18 table19 table21
every_word = tt

-- ---- a word that the coder sends, to its sign and interval, and back

six_back : ℕ → Bool
unfolding to_six from_six
six_back k = eqb (to_six (from_six (4 + k))) (4 + k)

pub six_there_and_back : (w : ℕ) → 4 ≤ w → w < 64 → to_six (from_six w) ≡ w
unfolding to_six from_six six_back
six_there_and_back w l h =
    let k : w - 4 < 60 = omega arith in
    let e : 4 + (w - 4) ≡ w = omega arith in
    subst (λ (v : ℕ). to_six (from_six v) ≡ v) e
    (eqb→eq (to_six (from_six (4 + (w - 4)))) (4 + (w - 4)) (below_at 60 six_back tt (w - 4) k))

two_back : ℕ → Bool
unfolding to_two from_two
two_back w = eqb (to_two (from_two w)) w

pub two_there_and_back : (w : ℕ) → w < 4 → to_two (from_two w) ≡ w
unfolding to_two from_two two_back
two_there_and_back w h = eqb→eq (to_two (from_two w)) w (below_at 4 two_back tt w h)

-- ---- Table 15: ILA is ILB, shifted

rule : ℕ → ℕ → Bool
unfolding ilb
rule i x = eqb (x + 1) (get_or ilb (i % 32) 0 * 2 ^ (i / 32) / 1024)

pub ila_is_ilb : (i : ℕ) → i < 353 → get_or ila i 0 + 1 ≡ get_or ilb (i % 32) 0 * 2 ^ (i / 32) / 1024
unfolding ila ilb rule
ila_is_ilb i l = eqb→eq (get_or ila i 0 + 1) (get_or ilb (i % 32) 0 * 2 ^ (i / 32) / 1024) (each_at 0 rule ila tt i l)

-- ---- the mirror filters: each phase has the sum 4096

pub even_sum : sum (λ (i : ℕ). coefficient (2 * i)) 12 ≡ pos 4096
unfolding sum coefficient h
even_sum = refl

pub odd_sum : sum (λ (i : ℕ). coefficient (2 * i + 1)) 12 ≡ pos 4096
unfolding sum coefficient h
odd_sum = refl

-- ---- the decision levels never fall, at any scale

higher : (scale a b : ℕ) → a ≤ b → level (pos scale) a ≤ℤ level (pos scale) b
unfolding level mul
higher scale a b h =
    clamp_mono (neg 32768) (pos 32767) (le_z_yes tt) (pos (a * 8 * scale / 32768)) (pos (b * 8 * scale / 32768))
    (le_from (omega (arith, shr_mono 15 (mul-le-mul_right scale (mul-le-mul_right 8 h)))))

pub levels_rise : (scale : ℕ) → Rising ◌≤ℤ◌ (map (level (pos scale)) (drop 1 q6))
unfolding q6
levels_rise scale = rising_map ◌≤◌ ◌≤ℤ◌ (level (pos scale)) (higher scale) (drop 1 q6) (omega arith)
