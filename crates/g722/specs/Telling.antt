-- Cases of ours that tell a wrong definition, table by table.
-- Each value was worked out by hand or by a model, and not by these definitions.
-- Assumes nothing.
use Rattle.std.specs.Prelude.{◌≡◌, refl, cond, List, [], ◌∷◌, ◌++◌, map, ℕ, ◌*◌, ◌-◌, ◌/◌, ℤ, pos, neg_ℤ, length, drop, take, replicate}
use Rattle.std.specs.Int.Signed.{mag}
use Rattle.g722.specs.Arithmetic.{neg, mul, negative, same_sign, limited, overloads}
use Rattle.g722.specs.Tables.{h, q6}
use Rattle.g722.specs.Quantise.{subtra, level, quantise, quanth, invqal, invqah, invqbl, logscl, logsch}
use Rattle.g722.specs.Band.{slide, sums, filtep, predic, parrec, recons, upzero, four, turned, uppol2, uppol1, next_poles, next_band}
use Rattle.g722.specs.Band.{low_after, high_after}
use Rattle.g722.specs.Mirror.{lowt, hight, accumc, accumd}
use Rattle.g722.specs.Octet.{high_word}
use Rattle.g722.specs.Records.{reset_band, reset_coder, reset_decoder}
use Rattle.g722.specs.Coding.{window, il_of, ih_of, coder_step, split_in_full, misfit, code_call}
use Rattle.g722.specs.Decoding.{rl_of, rh_of, decoder_step, decode_call}
use Rattle.g722.specs.Steps.{hear_call, join_call}
use Rattle.g722.specs.Cue.{unfilled, put_call, take_call}
use Rattle.g722.specs.Opened.{meaning}
use Rattle.g722.specs.Case.{Case, ◌gives◌, Hold, all_hold, these, truths, sent, heard, codes, decodes, hears, joins, moves}
use Rattle.g722.specs.declared.Poles.{Poles}
use Rattle.g722.specs.declared.Band.{Band}
use Rattle.g722.specs.declared.Coder.{Coder}
use Rattle.g722.specs.declared.Decoder.{Decoder}

-- ---- records to ask about

abbrev poles : ℤ → ℤ → ℤ → ℤ → ℤ → ℤ → Poles
poles a1 a2 r1 r2 p1 p2 = record { a1 = a1; a2 = a2; r1 = r1; r2 = r2; p1 = p1; p2 = p2 }

abbrev still : ℤ → ℤ → Poles
still a1 a2 = poles a1 a2 (pos 0) (pos 0) (pos 0) (pos 0)

-- whose two past partial signals differ in sign
abbrev parted : ℤ → ℤ → Poles
parted a1 a2 = poles a1 a2 (pos 0) (pos 0) (neg 1) (pos 0)

abbrev band : Poles → ℤ → ℤ → Band
band s log scale = record { zeros = (reset_band (pos 0)).zeros; poles = s; factors = record { log = log; scale = scale } }

abbrev low : Band
low = reset_band (pos 32)

abbrev high : Band
high = reset_band (pos 8)

-- with pole coefficients, the first and the second
abbrev low_with : ℤ → ℤ → Band
low_with a1 a2 = band (still a1 a2) (pos 0) (pos 32)

abbrev high_with : ℤ → ℤ → Band
high_with a1 a2 = band (still a1 a2) (pos 0) (pos 8)

-- with a log factor and a scale factor
abbrev scaled : ℤ → ℤ → Band
scaled log scale = band (still (pos 0) (pos 0)) log scale

-- at full swing: its prediction stops at 32767
abbrev swung : Band
swung = band (poles (pos 27648) (neg 12288) (pos 32767) (neg 32768) (pos 0) (pos 0)) (pos 0) (pos 32)

-- and so at either end, with a scale factor
abbrev up : ℤ → Band
up scale = band (poles (pos 27648) (neg 12288) (pos 32767) (neg 32768) (pos 0) (pos 0)) (pos 0) scale

abbrev down : ℤ → Band
down scale = band (poles (pos 27648) (neg 12288) (neg 32768) (pos 32767) (pos 0) (pos 0)) (pos 0) scale

-- with both parts of the predictor at work
abbrev busy : Band
busy =
    record {
      zeros = record {
        b = neg 8192 ∷ replicate 4 (pos 0) ++ (pos 16384 ∷ []);
        d = pos 50 ∷ replicate 4 (pos 0) ++ (pos 100 ∷ []);
      };
      poles = poles (pos 8192) (neg 8192) (pos 200) (pos 80) (neg 3) (pos 4);
      factors = record { log = pos 0; scale = pos 32 };
    }

-- all the numbers of a band
abbrev flat : Band → List ℤ
flat s =
    let p = s.poles in
    s.zeros.b ++ s.zeros.d ++ (p.a1 ∷ p.a2 ∷ p.r1 ∷ p.r2 ∷ p.p1 ∷ p.p2 ∷ s.factors.log ∷ s.factors.scale ∷ [])

-- its newest signal and its factors
abbrev summary : Band → List ℤ
summary s = s.poles.r1 ∷ s.factors.log ∷ s.factors.scale ∷ []

abbrev coder : Band → Band → ℤ → Coder
coder l r oldest = record { low = l; high = r; past = oldest ∷ replicate 21 (pos 0) }

abbrev decoder : Band → Band → ℤ → ℤ → Decoder
decoder l r rl rh =
    record { low = l; high = r; past = record { rl = rl ∷ replicate 10 (pos 0); rh = replicate 10 (pos 0) ++ (rh ∷ []) } }

-- broken by its second pole coefficient; and good, with bands at full swing and past pairs
abbrev broken : Decoder
broken = decoder (low_with (pos 0) (pos 12289)) high (pos 0) (pos 0)

abbrev full : Decoder
full = decoder (up (pos 32)) (down (pos 8)) (pos 3) (pos 4)

-- the numbers that empty calls give to records, as a host might hand them in
abbrev coder_numbers : List Coder → List ℤ
coder_numbers cs = map (λ (c : Coder). pos (code_call c [] []).answer.number) cs

abbrev decoder_numbers : List Decoder → List ℤ
decoder_numbers ds = map (λ (d : Decoder). pos (decode_call d 0 [] []).answer.number) ds

-- the loudest samples that have these signs
abbrev loudest : List ℤ → List ℤ
loudest xs = map (λ (x : ℤ). cond (negative x) (neg 16384) (pos 16383)) xs

abbrev turned_round : List ℤ → List ℤ
turned_round xs = map neg_ℤ xs

-- every second entry, from the first or the second on; and all, every second one negated
abbrev evens : List ℤ → List ℤ
evens [] = []
evens (x ∷ []) = x ∷ []
evens (x ∷ y ∷ rest) = x ∷ evens rest

abbrev odds : List ℤ → List ℤ
odds xs = evens (drop 1 xs)

abbrev alternating : List ℤ → List ℤ
alternating [] = []
alternating (x ∷ []) = neg_ℤ x ∷ []
alternating (x ∷ y ∷ rest) = neg_ℤ x ∷ y ∷ alternating rest

-- one loud sample among zeros, the oldest or the newest of so many
abbrev first_of24 : List ℤ
first_of24 = pos 16383 ∷ replicate 23 (pos 0)

abbrev last_of24 : List ℤ
last_of24 = replicate 23 (pos 0) ++ (pos 16383 ∷ [])

abbrev first_of12 : List ℤ
first_of12 = pos 16383 ∷ replicate 11 (pos 0)

abbrev last_of12 : List ℤ
last_of12 = replicate 11 (pos 0) ++ (pos 16383 ∷ [])

abbrev zeros : List ℤ
zeros = replicate 12 (pos 0)

-- both samples of twelve pairs
abbrev outputs : List ℤ → List ℤ → List ℤ
outputs rl rh = accumc rl rh ∷ accumd rl rh ∷ []

-- samples and octets to run over, and the records after their first two pairs, and octets
abbrev forty : List ℤ
forty =
    pos 900 ∷ neg 700 ∷ neg 500 ∷ pos 300 ∷ pos 8000 ∷ neg 16000 ∷ pos 12345 ∷ neg 1
    ∷ pos 16383 ∷ neg 16384 ∷ pos 5 ∷ pos 7000 ∷ neg 3000 ∷ pos 250 ∷ neg 9999 ∷ pos 4321
    ∷ pos 5823 ∷ pos 6258 ∷ pos 5805 ∷ pos 7640 ∷ neg 2778 ∷ neg 2950 ∷ pos 7774 ∷ pos 6589
    ∷ neg 2900 ∷ neg 5916 ∷ pos 5633 ∷ pos 941 ∷ neg 4354 ∷ neg 6029 ∷ pos 8651 ∷ neg 7628
    ∷ pos 3981 ∷ pos 5843 ∷ neg 3840 ∷ neg 8509 ∷ pos 8313 ∷ neg 6931 ∷ neg 7049 ∷ neg 7832 ∷ []

abbrev twelve : List ℕ
twelve = 0x04 ∷ 0x20 ∷ 0x84 ∷ 0xA0 ∷ 0x04 ∷ 0xE4 ∷ 0x21 ∷ 0x9B ∷ 0x60 ∷ 0x05 ∷ 0xC8 ∷ 0x37 ∷ []

abbrev after_two : Coder
after_two = coder_step (coder_step reset_coder (pos 900) (neg 700)) (neg 500) (pos 300)

abbrev heard_two : Decoder
heard_two = decoder_step 1 (decoder_step 1 reset_decoder 0x04) 0x20

-- their signals, as the second codec has them: the low ones in each mode, and the high ones, which no mode changes
abbrev low1 : List ℤ
low1 =
    neg 25 ∷ pos 66 ∷ neg 188 ∷ pos 519 ∷ neg 1432 ∷ pos 2408 ∷ pos 4483 ∷ neg 1317 ∷ pos 12124 ∷ neg 12417 ∷ neg 5267 ∷ pos 1232 ∷ []

abbrev low2 : List ℤ
low2 =
    neg 23 ∷ pos 62 ∷ neg 177 ∷ pos 489 ∷ neg 1351 ∷ pos 2277 ∷ pos 4801 ∷ neg 1405 ∷ pos 11426 ∷ neg 13141 ∷ neg 4835 ∷ pos 1320 ∷ []

abbrev low3 : List ℤ
low3 =
    neg 20 ∷ pos 54 ∷ neg 156 ∷ pos 430 ∷ neg 1189 ∷ pos 2091 ∷ pos 4165 ∷ neg 1593 ∷ pos 10040 ∷ neg 11693 ∷ neg 4223 ∷ pos 1508 ∷ []

abbrev highs : List ℤ
highs = neg 2 ∷ neg 2 ∷ pos 2 ∷ pos 1 ∷ neg 8 ∷ neg 3 ∷ neg 8 ∷ pos 2 ∷ neg 7 ∷ neg 13 ∷ pos 1 ∷ neg 16 ∷ []

-- the twelve heard from reset, what hearing two leaves, and what joining leaves
abbrev hears_twelve : ℕ → List ℤ
hears_twelve told = hears reset_decoder told twelve zeros zeros

abbrev two_heard : Decoder
two_heard = (hear_call full 1 (take 2 twelve) (pos 0 ∷ pos 0 ∷ []) (pos 0 ∷ pos 0 ∷ [])).answer.next

abbrev one_joined : Decoder
one_joined = (join_call full (pos 5 ∷ []) (pos 6 ∷ []) (pos 0 ∷ pos 0 ∷ [])).answer.next

-- a coder and a decoder with their whole past; and a band whose prediction is -16362 or -16361, or near the upper end
abbrev coder_on : Band → Band → List ℤ → Coder
coder_on l r past = record { low = l; high = r; past = past }

abbrev decoder_on : List ℤ → List ℤ → Decoder
decoder_on rl rh = record { low = low; high = high; past = record { rl = take 11 rl; rh = take 11 rh } }

abbrev nearly : ℤ → ℤ → ℤ → Band
nearly r1 r2 scale = band (poles (pos 27648) (neg 12288) r1 r2 (pos 0) (pos 0)) (pos 0) scale

-- twelve, the sixth of which is not zero
abbrev sixth : ℤ → List ℤ
sixth x = replicate 5 (pos 0) ++ (x ∷ replicate 6 (pos 0))

-- what is said of coding the samples behind the 22 first; of one octet heard near the lower end; of the last of twelve pairs joined
abbrev lamp_coding : List ℤ → List ℤ
lamp_coding xs = take 3 (codes (coder_on low high (take 22 xs)) (drop 22 xs) (replicate ((length xs - 22) / 2) 7))

abbrev lamp_hearing : ℤ → ℕ → List ℤ
lamp_hearing r2 told =
    hears (decoder (nearly (neg 16384) (neg_ℤ r2) (pos 32)) high (pos 0) (pos 0)) told (0x04 ∷ []) (pos 5 ∷ []) (pos 6 ∷ [])

abbrev lamp_joining : List ℤ → List ℤ → List ℤ
lamp_joining rl rh = joins (decoder_on rl rh) (drop 11 rl) (drop 11 rh) (pos 5 ∷ pos 6 ∷ [])

-- the second step over what the first gives
abbrev in_two_steps : Decoder → ℕ → List ℕ → List ℤ
in_two_steps d told octets =
    let n = length octets in
    let one = hear_call d told octets (replicate n (pos 0)) (replicate n (pos 0)) in
    joins one.answer.next one.left.0 one.left.1 (replicate (2 * n) (pos 0))

-- ---- the cases

-- a product rounds down, its one overflow is 32767, sizes are not negations, the limits hold at both ends, and there a
-- value is not changed
pub arithmetic : List Case
arithmetic =
    ((mul (neg 1616) (pos 8) ∷ mul (neg 32768) (neg 32768) ∷ []) gives (neg 1 ∷ pos 32767 ∷ []))
    ∷ (these (mag (neg 1) ∷ mag (neg 32768) ∷ []) gives these (0 ∷ 32767 ∷ []))
    ∷ (((limited (neg 16385)).value ∷ (limited (neg 16384)).value ∷ (limited (pos 16383)).value ∷ (limited (pos 16384)).value ∷ [])
    gives (neg 16384 ∷ neg 16384 ∷ pos 16383 ∷ pos 16383 ∷ []))
    ∷ (truths ((limited (neg 16385)).changed ∷ (limited (neg 16384)).changed
    ∷ (limited (pos 16383)).changed ∷ (limited (pos 16384)).changed ∷ [])
    gives these (1 ∷ 0 ∷ 0 ∷ 1 ∷ []))
    ∷ (these (overloads (neg 16385 ∷ neg 16384 ∷ pos 0 ∷ pos 16383 ∷ pos 16384 ∷ pos 32767 ∷ []) ∷ overloads [] ∷ [])
    gives these (3 ∷ 0 ∷ []))
    ∷ (truths (same_sign (pos 0) (pos 1) ∷ same_sign (neg 1) (pos 0) ∷ same_sign (neg 1) (neg 2) ∷ []) gives these (1 ∷ 0 ∷ 1 ∷ []))
    ∷ []

pub arithmetic_hold : Hold arithmetic
unfolding arithmetic meaning
arithmetic_hold = all_hold arithmetic refl

-- three levels are 0 at scale 32, so size 0 is interval 4; the high band's one level; the differences of the loop and of each mode
pub quantising : List Case
quantising =
    (map (level (pos 32)) (take 4 (drop 1 q6)) gives these (0 ∷ 0 ∷ 0 ∷ 1 ∷ []))
    ∷ (these ((quantise (drop 1 q6) (pos 0) (pos 32)).number ∷ []) gives these (4 ∷ []))
    ∷ (these (quanth (pos 0) (pos 8) ∷ quanth (pos 1) (pos 8) ∷ quanth (neg 1) (pos 8) ∷ quanth (neg 2) (pos 8) ∷ [])
    gives these (3 ∷ 2 ∷ 1 ∷ 0 ∷ []))
    ∷ ((invqal 0b000100 (pos 1000) ∷ invqal 0b000111 (pos 1000) ∷ invqal 0b000011 (pos 1000) ∷ invqal 0b100000 (pos 1000) ∷ [])
    gives (neg 625 ∷ neg 625 ∷ pos 0 ∷ pos 624 ∷ []))
    ∷ ((invqah 0b00 (pos 1000) ∷ invqah 0b01 (pos 1000) ∷ invqah 0b10 (pos 1000) ∷ invqah 0b11 (pos 1000) ∷ [])
    gives (neg 227 ∷ neg 50 ∷ pos 226 ∷ pos 49 ∷ []))
    ∷ ((invqbl 1 0b000100 (pos 1000) ∷ invqbl 2 0b000100 (pos 1000) ∷ invqbl 3 0b000100 (pos 1000) ∷ [])
    gives (neg 758 ∷ neg 713 ∷ neg 625 ∷ []))
    ∷ ((subtra (pos 5) (pos 3) ∷ []) gives (pos 2 ∷ []))
    ∷ (heard 0 (0xFF ∷ []) gives (neg 1 ∷ pos 0 ∷ []))
    ∷ (these (map high_word (0x3F ∷ 0x40 ∷ 0xBF ∷ 0xC0 ∷ [])) gives these (0 ∷ 1 ∷ 2 ∷ 3 ∷ []))
    ∷ ((logscl 0b111100 (pos 0) ∷ logsch 0b11 (pos 0) ∷ logsch 0b10 (pos 22528) ∷ []) gives (pos 0 ∷ pos 0 ∷ pos 22528 ∷ []))
    ∷ ((logscl 0b111100 (pos 18367) ∷ logsch 0b11 (pos 18367) ∷ []) gives (pos 18163 ∷ pos 18009 ∷ []))
    ∷ []

pub quantising_hold : Hold quantising
unfolding quantising meaning
quantising_hold = all_hold quantising refl

-- FILTEZ stops at each sum from the oldest on, FILTEP at its sum; what the prediction, the partial and the reconstructed signal are made of
pub predicting : List Case
predicting =
    ((sums (pos 0) (pos 30000 ∷ pos 30000 ∷ neg 30000 ∷ []) ∷ []) gives (pos 2767 ∷ []))
    ∷ ((filtep swung.poles ∷ []) gives (pos 32767 ∷ []))
    ∷ ((predic busy ∷ parrec busy (pos 7) ∷ recons busy (pos 7) ∷ []) gives (pos 135 ∷ pos 82 ∷ pos 142 ∷ []))
    ∷ (slide (pos 1 ∷ pos 2 ∷ pos 3 ∷ []) (pos 4) gives these (2 ∷ 3 ∷ 4 ∷ []))
    ∷ []

pub predicting_hold : Hold predicting
unfolding predicting meaning
predicting_hold = all_hold predicting refl

-- signs and gains of UPZERO; the stops and limits of UPPOL2 and UPPOL1; the loop keeps the unlimited signal
pub adapting : List Case
adapting =
    ((upzero (pos 5) (pos 100) (pos 0) ∷ upzero (pos 5) (pos 100) (neg 1) ∷ upzero (pos 0) (pos 100) (neg 1) ∷ [])
    gives (pos 227 ∷ neg 29 ∷ pos 99 ∷ []))
    ∷ ((upzero (pos 0) (pos 32767) (pos 0) ∷ []) gives (pos 32639 ∷ []))
    ∷ ((four (pos 9000) ∷ four (neg 9000) ∷ []) gives (pos 32767 ∷ neg 32768 ∷ []))
    ∷ ((turned (still (neg 9000) (pos 0)) (pos 0) ∷ turned (still (neg 9000) (pos 0)) (neg 1) ∷ []) gives (pos 255 ∷ neg 256 ∷ []))
    ∷ ((uppol2 (still (neg 9000) (pos 12288)) (pos 0) ∷ uppol2 (poles (pos 9000) (neg 12288) (pos 0) (pos 0) (pos 0) (neg 1)) (pos 0) ∷ [])
    gives (pos 12288 ∷ neg 12288 ∷ []))
    ∷ ((uppol2 (still (pos 0) (pos 1000)) (pos 0) ∷ uppol2 (still (pos 0) (pos 1000)) (neg 1) ∷ []) gives (pos 1120 ∷ pos 864 ∷ []))
    ∷ ((uppol2 (still (pos 0) (pos 12161)) (pos 0) ∷ uppol2 (still (pos 0) (pos 12288)) (neg 1) ∷ []) gives (pos 12193 ∷ pos 12064 ∷ []))
    ∷ ((uppol2 (parted (pos 0) (pos 1000)) (pos 0) ∷ uppol1 (parted (pos 1000) (pos 0)) (pos 0) (pos 0) ∷ [])
    gives (pos 1120 ∷ pos 804 ∷ []))
    ∷ ((uppol1 (still (pos 27137) (pos 0)) (neg 12288) (pos 0) ∷ uppol1 (still (pos 27136) (pos 0)) (neg 12288) (pos 0) ∷ [])
    gives (pos 27222 ∷ pos 27222 ∷ []))
    ∷ ((uppol1 (still (pos 3072) (pos 0)) (pos 12288) (pos 0) ∷ uppol1 (still (neg 3072) (pos 0)) (pos 12288) (neg 1) ∷ [])
    gives (pos 3072 ∷ neg 3072 ∷ []))
    ∷ (((next_poles (still (pos 3160) (pos 12200)) (neg 1) (pos 0)).a1 ∷ (next_poles (still (pos 3160) (pos 12200)) (pos 7) (pos 0)).a1 ∷ [])
    gives (pos 2955 ∷ pos 3227 ∷ []))
    ∷ (((next_band swung (pos 1000) swung.factors).poles.r1 ∷ []) gives (pos 32767 ∷ []))
    ∷ (flat (next_band busy (pos 7) low.factors) gives
    ((neg 8032 ∷ pos 128 ∷ pos 128 ∷ pos 128 ∷ pos 128 ∷ pos 16448 ∷ []) ++ (pos 0 ∷ pos 0 ∷ pos 0 ∷ pos 0 ∷ pos 100 ∷ pos 7 ∷ [])
    ++ (pos 7968 ∷ neg 7745 ∷ pos 142 ∷ pos 200 ∷ pos 82 ∷ neg 3 ∷ pos 0 ∷ pos 32 ∷ [])))
    ∷ []

pub adapting_hold : Hold adapting
unfolding adapting meaning
adapting_hold = all_hold adapting refl

-- both filters in full, beyond the range at both ends, and the newest and the oldest meet H0 and H23
pub filters : List Case
filters =
    ((lowt (loudest h) ∷ lowt (loudest (turned_round h)) ∷ []) gives (pos 25926 ∷ neg 25928 ∷ []))
    ∷ ((hight (loudest (alternating h)) ∷ hight (loudest (turned_round (alternating h))) ∷ []) gives (pos 25927 ∷ neg 25928 ∷ []))
    ∷ ((lowt first_of24 ∷ hight first_of24 ∷ lowt last_of24 ∷ hight last_of24 ∷ []) gives (pos 5 ∷ neg 6 ∷ pos 5 ∷ pos 5 ∷ []))
    ∷ ((accumc (loudest (odds h)) (loudest (turned_round (odds h))) ∷ accumc (loudest (turned_round (odds h))) (loudest (odds h)) ∷ [])
    gives (pos 51854 ∷ neg 51855 ∷ []))
    ∷ ((accumd (loudest (evens h)) (loudest (evens h)) ∷ accumd (loudest (turned_round (evens h))) (loudest (turned_round (evens h))) ∷ [])
    gives (pos 51853 ∷ neg 51856 ∷ []))
    ∷ (outputs last_of12 zeros ++ outputs zeros last_of12 gives (pos 11 ∷ neg 44 ∷ neg 12 ∷ neg 44 ∷ []))
    ∷ (outputs first_of12 zeros ++ outputs zeros first_of12 gives (neg 44 ∷ pos 11 ∷ pos 43 ∷ pos 11 ∷ []))
    ∷ []

pub filters_hold : Hold filters
unfolding filters meaning
filters_hold = all_hold filters refl

-- the heard signals are limited; what a step keeps; the mode leaves the loop alone
pub stepping : List Case
stepping =
    ((recons swung (pos 1000) ∷ rl_of 1 swung 0xE0 ∷ rh_of swung 0xE0 ∷ []) gives (pos 32767 ∷ pos 16383 ∷ pos 16383 ∷ []))
    ∷ (summary (low_after (scaled (pos 5000) (pos 100)) 0b100000) ++ summary (high_after (scaled (pos 5000) (pos 100)) 0b10)
    gives (pos 62 ∷ pos 8002 ∷ pos 476 ∷ pos 22 ∷ pos 5758 ∷ pos 52 ∷ []))
    -- the pair is sent as 0xDB, that is by the words 11 and 011011
    ∷ (flat (coder_step reset_coder (pos 900) (neg 700)).low gives flat (low_after low 0b011011))
    ∷ (flat (coder_step reset_coder (pos 900) (neg 700)).high gives flat (high_after high 0b11))
    ∷ ((coder_step reset_coder (pos 5) (pos 6)).past gives replicate 20 (pos 0) ++ (pos 5 ∷ pos 6 ∷ []))
    ∷ ((decoder_step 1 reset_decoder 0x04).past.rl gives replicate 10 (pos 0) ++ (neg 25 ∷ []))
    ∷ ((decoder_step 1 reset_decoder 0x04).past.rh gives replicate 10 (pos 0) ++ (neg 2 ∷ []))
    ∷ (((decoder_step 1 reset_decoder 0x04).low.poles.r1 ∷ (decoder_step 3 reset_decoder 0x04).low.poles.r1 ∷ [])
    gives (neg 20 ∷ neg 20 ∷ []))
    ∷ []

pub stepping_hold : Hold stepping
unfolding stepping meaning
stepping_hold = all_hold stepping refl

-- a short run at either end, in each mode, as the second codec has it; and the record that a call of two pairs ends with
pub running : List Case
running =
    (sent forty
    gives these (0xDB ∷ 0x2A ∷ 0x84 ∷ 0x20 ∷ 0x85 ∷ 0x21 ∷ 0x8F ∷ 0x23 ∷ 0x0F ∷ 0x20
    ∷ 0x0D ∷ 0xB0 ∷ 0x8E ∷ 0xB6 ∷ 0x21 ∷ 0xB5 ∷ 0x2F ∷ 0xB0 ∷ 0x1A ∷ 0x9E ∷ []))
    ∷ (drop 12 (heard 1 twelve)
    gives (pos 0 ∷ pos 210 ∷ neg 19 ∷ neg 420 ∷ pos 42 ∷ pos 720 ∷ pos 69 ∷ neg 1069 ∷ neg 1085 ∷ pos 309 ∷ pos 3799 ∷ pos 6601 ∷ []))
    ∷ (drop 12 (heard 2 twelve)
    gives (pos 1 ∷ pos 196 ∷ neg 20 ∷ neg 388 ∷ pos 42 ∷ pos 656 ∷ pos 67 ∷ neg 950 ∷ neg 1049 ∷ pos 151 ∷ pos 3725 ∷ pos 6856 ∷ []))
    ∷ (drop 12 (heard 3 twelve)
    gives (pos 1 ∷ pos 173 ∷ neg 18 ∷ neg 345 ∷ pos 38 ∷ pos 583 ∷ pos 53 ∷ neg 846 ∷ neg 901 ∷ pos 194 ∷ pos 3365 ∷ pos 6069 ∷ []))
    ∷ ((code_call reset_coder (take 4 forty) (0 ∷ 0 ∷ [])).answer.next.past gives replicate 18 (pos 0) ++ take 4 forty)
    ∷ (flat (code_call reset_coder (take 4 forty) (0 ∷ 0 ∷ [])).answer.next.low gives flat after_two.low)
    ∷ ((decode_call reset_decoder 1 (take 2 twelve) (replicate 4 (pos 0))).answer.next.past.rl gives heard_two.past.rl)
    ∷ []

pub running_hold : Hold running
unfolding running meaning
running_hold = all_hold running refl

-- reset is all zero but for the scale factors 32 and 8
pub resetting : List Case
resetting =
    (flat reset_coder.low ++ flat reset_coder.high ++ reset_coder.past
    gives replicate 19 (pos 0) ++ (pos 32 ∷ replicate 19 (pos 0)) ++ (pos 8 ∷ replicate 22 (pos 0)))
    ∷ (flat reset_decoder.low ++ flat reset_decoder.high ++ reset_decoder.past.rl ++ reset_decoder.past.rh
    gives replicate 19 (pos 0) ++ (pos 32 ∷ replicate 19 (pos 0)) ++ (pos 8 ∷ replicate 22 (pos 0)))
    ∷ []

pub resetting_hold : Hold resetting
unfolding resetting meaning
resetting_hold = all_hold resetting refl

-- the bounds of a record: the second pole coefficient, the first, the factors, the past; in both bands, at both ends
pub bounds : List Case
bounds =
    (coder_numbers (map (λ (s : Band). coder s high (pos 0))
    (low_with (pos 3072) (pos 12288) ∷ low_with (pos 0) (pos 12289) ∷ low_with (pos 27648) (neg 12288) ∷ low_with (pos 0) (neg 12289) ∷ []))
    gives these (0 ∷ 2 ∷ 0 ∷ 2 ∷ []))
    ∷ (coder_numbers (map (λ (s : Band). coder s high (pos 0))
    (low_with (pos 3073) (pos 12288) ∷ low_with (neg 3072) (pos 12288) ∷ low_with (neg 3073) (pos 12288) ∷ []))
    gives these (2 ∷ 0 ∷ 2 ∷ []))
    ∷ (coder_numbers (map (λ (s : Band). coder s high (pos 0))
    (scaled (pos 18432) (pos 16384) ∷ scaled (pos 18433) (pos 16384) ∷ scaled (neg 1) (pos 32) ∷ scaled (pos 0) (pos 36) ∷ []))
    gives these (0 ∷ 2 ∷ 2 ∷ 2 ∷ []))
    ∷ (coder_numbers (map (λ (s : Band). coder low s (pos 0))
    (scaled (pos 22528) (pos 16384) ∷ scaled (pos 22529) (pos 16384) ∷ high_with (pos 0) (pos 12289) ∷ high_with (pos 15361) (pos 0) ∷ []))
    gives these (0 ∷ 2 ∷ 2 ∷ 2 ∷ []))
    ∷ (coder_numbers (coder low high (neg 16384) ∷ coder low high (neg 16385) ∷ coder low high (pos 16384) ∷ [])
    gives these (0 ∷ 2 ∷ 2 ∷ []))
    ∷ (decoder_numbers (decoder high high (pos 0) (pos 0) ∷ decoder low low (pos 0) (pos 0) ∷ []) gives these (2 ∷ 2 ∷ []))
    ∷ (decoder_numbers
    (decoder (low_with (pos 0) (pos 12289)) high (pos 0) (pos 0) ∷ decoder low (high_with (pos 0) (pos 12289)) (pos 0) (pos 0) ∷ [])
    gives these (2 ∷ 2 ∷ []))
    ∷ (decoder_numbers
    (decoder low high (pos 16383) (neg 16384) ∷ decoder low high (pos 16384) (pos 0) ∷ decoder low high (pos 0) (neg 16385) ∷ [])
    gives these (0 ∷ 2 ∷ 2 ∷ []))
    ∷ []

pub bounds-hold : Hold bounds
unfolding bounds meaning
bounds-hold = all_hold bounds refl

-- refusals in their order with what was lent kept: coding 3, 2, 4 with the index, decoding 1, 3, 2;
-- the record comes back; an accepted call's index is 0
pub refusals : List Case
refusals =
    (codes (coder (low_with (pos 0) (pos 12289)) high (pos 0)) (pos 16384 ∷ []) (7 ∷ []) gives these (3 ∷ 0 ∷ 0 ∷ 7 ∷ []))
    ∷ (codes (coder (low_with (pos 0) (pos 12289)) high (pos 0)) (pos 16384 ∷ pos 0 ∷ []) (7 ∷ []) gives these (2 ∷ 0 ∷ 0 ∷ 7 ∷ []))
    ∷ (codes reset_coder (pos 0 ∷ neg 16385 ∷ []) (7 ∷ []) gives these (4 ∷ 1 ∷ 0 ∷ 7 ∷ []))
    ∷ (codes reset_coder (pos 0 ∷ pos 0 ∷ []) (7 ∷ []) gives these (0 ∷ 0 ∷ 0 ∷ 0xFA ∷ []))
    ∷ (decodes (decoder (reset_band (pos 0)) high (pos 0) (pos 0)) 4 [] (pos 5 ∷ []) gives these (1 ∷ 0 ∷ 0 ∷ 5 ∷ []))
    ∷ (decodes (decoder (reset_band (pos 0)) high (pos 0) (pos 0)) 3 [] (pos 5 ∷ []) gives these (3 ∷ 0 ∷ 0 ∷ 5 ∷ []))
    ∷ (decodes (decoder (reset_band (pos 0)) high (pos 0) (pos 0)) 3 (0xFA ∷ []) (pos 5 ∷ pos 6 ∷ []) gives these (2 ∷ 0 ∷ 0 ∷ 5 ∷ 6 ∷ []))
    ∷ (decodes reset_decoder 1 (0xFA ∷ []) (pos 5 ∷ pos 6 ∷ []) gives (pos 0 ∷ pos 0 ∷ pos 0 ∷ pos 0 ∷ neg 1 ∷ []))
    ∷ (flat (code_call (coder swung high (pos 0)) (pos 16384 ∷ pos 0 ∷ []) (7 ∷ [])).answer.next.low gives flat swung)
    ∷ (flat (decode_call (decoder swung high (pos 0) (pos 0)) 4 [] []).answer.next.low gives flat swung)
    ∷ (truths (misfit 16000 8000 ∷ misfit 16002 8001 ∷ misfit 15999 8000 ∷ misfit 16001 8000 ∷ []) gives these (0 ∷ 1 ∷ 1 ∷ 1 ∷ []))
    ∷ []

pub refusals_hold : Hold refusals
unfolding refusals meaning
refusals_hold = all_hold refusals refl

-- hearing refuses 1, 3, 2 and leaves what was lent; its signals, the low before the high, limited at both ends; it moves both bands, and
-- leaves the past pairs
pub hearing : List Case
hearing =
    (hears broken 4 [] (pos 5 ∷ []) (pos 6 ∷ []) gives these (1 ∷ 0 ∷ 0 ∷ 5 ∷ 6 ∷ []))
    ∷ (hears broken 3 [] (pos 5 ∷ []) [] gives these (3 ∷ 0 ∷ 0 ∷ 5 ∷ []))
    ∷ (hears broken 3 [] [] (pos 6 ∷ []) gives these (3 ∷ 0 ∷ 0 ∷ 6 ∷ []))
    ∷ (hears broken 3 (0xFA ∷ []) (pos 5 ∷ []) (pos 6 ∷ []) gives these (2 ∷ 0 ∷ 0 ∷ 5 ∷ 6 ∷ []))
    ∷ (these ((hear_call reset_decoder 1 (replicate 8001 0) (replicate 8001 (pos 0)) (replicate 8001 (pos 0))).answer.number ∷ [])
    gives these (3 ∷ []))
    ∷ (hears_twelve 0 gives (pos 0 ∷ pos 0 ∷ pos 0 ∷ low1 ++ highs))
    ∷ (hears_twelve 1 gives (pos 0 ∷ pos 0 ∷ pos 0 ∷ low1 ++ highs))
    ∷ (hears_twelve 2 gives (pos 0 ∷ pos 0 ∷ pos 0 ∷ low2 ++ highs))
    ∷ (hears_twelve 3 gives (pos 0 ∷ pos 0 ∷ pos 0 ∷ low3 ++ highs))
    ∷ (hears full 1 (0x20 ∷ []) (pos 5 ∷ []) (pos 6 ∷ []) gives (pos 0 ∷ pos 0 ∷ pos 2 ∷ pos 16383 ∷ neg 16384 ∷ []))
    ∷ (hears (decoder (down (pos 32)) (up (pos 8)) (pos 0) (pos 0)) 1 (0x84 ∷ []) (pos 5 ∷ []) (pos 6 ∷ [])
    gives (pos 0 ∷ pos 0 ∷ pos 2 ∷ neg 16384 ∷ pos 16383 ∷ []))
    ∷ (flat two_heard.low ++ flat two_heard.high
    gives flat (decoder_step 1 (decoder_step 1 full 0x04) 0x20).low ++ flat (decoder_step 1 (decoder_step 1 full 0x04) 0x20).high)
    ∷ (two_heard.past.rl ++ two_heard.past.rh gives full.past.rl ++ full.past.rh)
    ∷ (flat (hear_call full 4 [] [] []).answer.next.low gives flat full.low)
    ∷ []

pub hearing_hold : Hold hearing
unfolding hearing meaning
hearing_hold = all_hold hearing refl

-- joining refuses 3, 2, 4 with the first bad pair, and leaves what was lent; its samples; it moves the past pairs, and leaves both bands;
-- what was heard and is joined is what is decoded
pub joining : List Case
joining =
    (joins broken (pos 16384 ∷ []) (pos 0 ∷ []) (pos 5 ∷ []) gives these (3 ∷ 0 ∷ 0 ∷ 5 ∷ []))
    ∷ (joins broken (pos 16384 ∷ []) [] (pos 5 ∷ pos 6 ∷ []) gives these (3 ∷ 0 ∷ 0 ∷ 5 ∷ 6 ∷ []))
    ∷ (joins broken (pos 16384 ∷ []) (pos 0 ∷ []) (pos 5 ∷ pos 6 ∷ []) gives these (2 ∷ 0 ∷ 0 ∷ 5 ∷ 6 ∷ []))
    ∷ (joins full (pos 0 ∷ pos 0 ∷ []) (pos 0 ∷ neg 16385 ∷ []) (replicate 4 (pos 5)) gives these (4 ∷ 1 ∷ 0 ∷ 5 ∷ 5 ∷ 5 ∷ 5 ∷ []))
    ∷ (these ((join_call reset_decoder (replicate 8001 (pos 0)) (replicate 8001 (pos 0)) (replicate 16002 (pos 0))).answer.number ∷ [])
    gives these (3 ∷ []))
    ∷ (joins reset_decoder [] [] [] gives these (0 ∷ 0 ∷ 0 ∷ []))
    ∷ (joins reset_decoder (pos 16383 ∷ neg 16384 ∷ pos 5000 ∷ neg 7 ∷ []) (neg 16384 ∷ pos 16383 ∷ pos 3000 ∷ pos 9 ∷ [])
    (replicate 8 (pos 5))
    gives (pos 0 ∷ pos 0 ∷ pos 0 ∷ pos 23 ∷ pos 0 ∷ neg 112 ∷ neg 1 ∷ pos 185 ∷ neg 22 ∷ pos 154 ∷ pos 103 ∷ []))
    ∷ (flat one_joined.low ++ flat one_joined.high gives flat full.low ++ flat full.high)
    ∷ (one_joined.past.rl ++ one_joined.past.rh gives replicate 10 (pos 0) ++ (pos 5 ∷ replicate 9 (pos 0)) ++ (pos 4 ∷ pos 6 ∷ []))
    ∷ (flat (join_call full [] [] (pos 5 ∷ [])).answer.next.low gives flat full.low)
    ∷ (in_two_steps reset_decoder 3 (0xFA ∷ 0x04 ∷ []) gives decodes reset_decoder 3 (0xFA ∷ 0x04 ∷ []) (replicate 4 (pos 0)))
    ∷ (in_two_steps full 2 (0x21 ∷ []) gives decodes full 2 (0x21 ∷ []) (replicate 2 (pos 0)))
    ∷ []

pub joining_hold : Hold joining
unfolding joining meaning
joining_hold = all_hold joining refl

-- XL and XH are coded limited, and counted where that changed them: each alone, both, and neither where XL reaches 16383 exactly
pub lamp_of_coding : List Case
lamp_of_coding =
    (these (il_of (coder_on (up (pos 16384)) high (take 22 (loudest h))) (neg 16384) (pos 16383)
    ∷ ih_of (coder_on low (nearly (pos 16384) (pos 15048) (pos 16384)) (take 22 (loudest (alternating h)))) (pos 16383) (pos 16383) ∷ [])
    gives these (4 ∷ 3 ∷ []))
    ∷ (lamp_coding (loudest h) gives these (0 ∷ 0 ∷ 1 ∷ []))
    ∷ (lamp_coding (loudest (turned_round (alternating h))) gives these (0 ∷ 0 ∷ 1 ∷ []))
    ∷ (lamp_coding (replicate 24 (pos 16383)) gives these (0 ∷ 0 ∷ 0 ∷ []))
    ∷ (lamp_coding (loudest h ++ (pos 0 ∷ pos 0 ∷ [])) gives these (0 ∷ 0 ∷ 1 ∷ []))
    ∷ []

pub lamp_of_coding_hold : Hold lamp_of_coding
unfolding lamp_of_coding meaning
lamp_of_coding_hold = all_hold lamp_of_coding refl

-- and of any run, what is counted are XL and XH of the windows that are coded
pub counted_are_coded : (c : Coder) (x y : ℤ) (rest : List ℤ)
    → split_in_full c.past (x ∷ y ∷ rest) ≡ lowt (window c x y) ∷ hight (window c x y) ∷ split_in_full (coder_step c x y).past rest
unfolding split_in_full window coder_step
counted_are_coded c x y rest = refl

-- YL as the mode has it is counted, and not what the loop keeps, which is in range here; where it reaches -16384 exactly it is not
-- counted; nor is what an earlier call counted
pub lamp_of_hearing : List Case
lamp_of_hearing =
    (lamp_hearing (pos 15048) 1 gives (pos 0 ∷ pos 0 ∷ pos 1 ∷ neg 16384 ∷ neg 2 ∷ []))
    ∷ (lamp_hearing (pos 15048) 3 gives (pos 0 ∷ pos 0 ∷ pos 0 ∷ neg 16382 ∷ neg 2 ∷ []))
    ∷ (lamp_hearing (pos 15050) 2 gives (pos 0 ∷ pos 0 ∷ pos 0 ∷ neg 16384 ∷ neg 2 ∷ []))
    ∷ (hears (decoder low (down (pos 8)) (pos 0) (pos 0)) 1 (0x04 ∷ []) (pos 5 ∷ []) (pos 6 ∷ [])
    gives (pos 0 ∷ pos 0 ∷ pos 1 ∷ neg 25 ∷ neg 16384 ∷ []))
    ∷ (hears (hear_call full 1 (0x20 ∷ []) (pos 0 ∷ []) (pos 0 ∷ [])).answer.next 1 [] [] [] gives these (0 ∷ 0 ∷ 0 ∷ []))
    ∷ []

pub lamp_of_hearing_hold : Hold lamp_of_hearing
unfolding lamp_of_hearing meaning
lamp_of_hearing_hold = all_hold lamp_of_hearing refl

-- each sample alone is limited and counted, at either end; 16383 reached exactly is not counted, and one more is; decoding counts
-- as its second step does, and not what was limited in the first
pub lamp_of_joining : List Case
lamp_of_joining =
    (lamp_joining (loudest (odds h)) (loudest (turned_round (odds h))) gives (pos 0 ∷ pos 0 ∷ pos 1 ∷ pos 16383 ∷ neg 1 ∷ []))
    ∷ (lamp_joining (loudest (turned_round (evens h))) (loudest (turned_round (evens h)))
    gives (pos 0 ∷ pos 0 ∷ pos 1 ∷ pos 0 ∷ neg 16384 ∷ []))
    ∷ (lamp_joining (sixth (pos 16383)) (sixth (neg 930)) gives (pos 0 ∷ pos 0 ∷ pos 0 ∷ pos 16383 ∷ pos 3587 ∷ []))
    ∷ (lamp_joining (sixth (pos 16383)) (sixth (neg 931)) gives (pos 0 ∷ pos 0 ∷ pos 1 ∷ pos 16383 ∷ pos 3587 ∷ []))
    ∷ (decodes (decoder_on (sixth (pos 16383)) (sixth (neg 931))) 1 (0x04 ∷ []) (pos 0 ∷ pos 0 ∷ [])
    gives (pos 0 ∷ pos 0 ∷ pos 1 ∷ pos 16383 ∷ pos 3587 ∷ []))
    ∷ (take 3 (decodes full 1 (0x20 ∷ []) (pos 0 ∷ pos 0 ∷ [])) gives these (0 ∷ 0 ∷ 0 ∷ []))
    ∷ []

pub lamp_of_joining_hold : Hold lamp_of_joining
unfolding lamp_of_joining meaning
lamp_of_joining_hold = all_hold lamp_of_joining refl

-- data calls 1, 5, 3; data must fill the octets; and taking out what sums 9 and 10 put in
pub cueing : List Case
cueing =
    (moves (put_call 4 (7 ∷ []) []) gives these (1 ∷ 0 ∷ 7 ∷ []))
    ∷ (moves (put_call 1 (7 ∷ []) []) gives these (5 ∷ 0 ∷ 7 ∷ []))
    ∷ (moves (take_call 0 (7 ∷ []) (9 ∷ [])) gives these (5 ∷ 0 ∷ 9 ∷ []))
    ∷ (moves (take_call 2 (replicate 7 0xFA) (9 ∷ [])) gives these (3 ∷ 0 ∷ 9 ∷ []))
    ∷ (moves (put_call 2 (replicate 16 0xFA) (0x81 ∷ [])) gives these (3 ∷ 0 ∷ replicate 16 0xFA))
    ∷ (moves (put_call 3 [] []) gives these (0 ∷ 0 ∷ []))
    ∷ (moves (take_call 3 (0xFA ∷ 0xFB ∷ 0xF8 ∷ 0xF9 ∷ []) (9 ∷ [])) gives these (0 ∷ 0 ∷ 0xB1 ∷ []))
    ∷ (moves (take_call 2 (0xFB ∷ replicate 6 0xFA ++ (0xFB ∷ [])) (9 ∷ [])) gives these (0 ∷ 0 ∷ 0x81 ∷ []))
    ∷ (moves (take_call 2 (replicate 4 0xFA ++ replicate 5 0xFB ++ replicate 6 0xFA ++ (0xFB ∷ [])) (9 ∷ 9 ∷ []))
    gives these (0 ∷ 0 ∷ 0x0F ∷ 0x81 ∷ []))
    ∷ (truths (unfilled 2 8000 1000 ∷ unfilled 2 8008 1001 ∷ unfilled 3 8000 2000 ∷ unfilled 3 8004 2001 ∷ [])
    gives these (0 ∷ 1 ∷ 0 ∷ 1 ∷ []))
    ∷ []

pub cueing_hold : Hold cueing
unfolding cueing meaning
cueing_hold = all_hold cueing refl
