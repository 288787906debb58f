-- A stream that is there: an octet that came with two bits wrong, a reset of both ends, and two octets whose upper six bits came as they
-- were sent. The ends had parted, and are equal again after each octet since the reset. So what the theorems ask for can be had.
-- Assumes nothing.
use Rattle.std.specs.Prelude.{◌≡◌, refl, ℕ, ℤ, pos, take}
use Rattle.std.proofs.Common.{sym, ap, ◌∙◌}
use mathlib.Core.List.{List, [], ◌∷◌, map, zip_with, foldl}
use Rattle.laws.specs.Clamp.{clamp}
use Rattle.laws.specs.Order.{no}
use Rattle.g722.specs.Arithmetic.{neg, add, sub, mul, limit, same_sign, within, equal}
use Rattle.g722.specs.Tables.{h, q6, qq4, wl, q2, qq2, wh, ila}
use Rattle.g722.specs.Words.{to_six, from_four, to_two, from_two}
use Rattle.g722.specs.Quantise.{level, at_or_below, quantise, quantl, quanth, inverse, invqal, invqah}
use Rattle.g722.specs.Quantise.{logsc, logscl, logsch, scale_at, scalel, scaleh, low_factors, high_factors}
use Rattle.g722.specs.Band as band
use Rattle.g722.specs.Band.{slide, term, sums, filtez, filtep, predic, parrec, recons, gain, upzero, four, uppol2, reach, uppol1}
use Rattle.g722.specs.Band.{next_zeros, next_poles, next_band, low_after, high_after}
use Rattle.g722.specs.Mirror.{sum, coefficient, xin, accuma, accumb, lowt, hight}
use Rattle.g722.specs.Octet.{octet}
use Rattle.g722.specs.Records.{reset_band, reset_coder, reset_decoder}
use Rattle.g722.specs.Coding.{window, il_of, ih_of, octet_of, coder_step}
use Rattle.g722.specs.Decoding.{decoder_step}
use Rattle.g722.specs.declared.Band.{Band}
use Rattle.facts.specs.Told.{Told}
use Rattle.facts.specs.Upper.{upper_six}
use Rattle.promises.proofs.SameBands.{SameBands}
use Rattle.promises.proofs.Turns.{Turn, reset, more, since, since_after, turned, given_in_turn}
use Rattle.promises.proofs.ResetStreams.{Pair, speak, hear, coder_after_turns, decoder_after_turns, sent_turns, each_octet_since}

abbrev pair : ℤ → ℤ → Turn Pair
pair x y = more (record { first = x; second = y })

abbrev told : ℕ → ℕ → Turn Told
told mode octet = more (record { mode = mode; octet = octet })

abbrev pub spoken : List (Turn Pair)
spoken = pair (neg 5000) (pos 1) ∷ reset ∷ pair (pos 0) (pos 900) ∷ pair (pos 2400) (neg 300) ∷ []

abbrev pub came : List (Turn Told)
came = told 1 0x7C ∷ reset ∷ told 3 0xF9 ∷ told 2 0x94 ∷ []

-- what was sent; and the log factor of the lower band at both ends when the first octet has come
pub record ResetWitnessed : Type 0 where
  pub sends : sent_turns spoken ≡ more 0x2C ∷ reset ∷ more 0xFA ∷ more 0x94 ∷ []
  pub coder_first : (coder_after_turns (take 1 spoken)).low.factors.log ≡ pos 334
  pub decoder_first : (decoder_after_turns (take 1 came)).low.factors.log ≡ pos 0

pub reset_witnessed : ResetWitnessed
unfolding zip_with clamp add sub mul limit same_sign within equal h q6 qq4 wl q2 qq2 wh ila to_six from_four to_two from_two
    level at_or_below quantise quantl quanth inverse invqal invqah
    logsc logscl logsch scale_at scalel scaleh low_factors high_factors
    slide term sums filtez filtep predic parrec recons gain upzero four band.turned uppol2 reach uppol1
    next_zeros next_poles next_band low_after high_after
    sum coefficient xin accuma accumb lowt hight octet reset_band reset_coder reset_decoder
    window il_of ih_of octet_of coder_step decoder_step given_in_turn turned
reset_witnessed = record { sends = refl; coder_first = refl; decoder_first = refl }

-- so the ends had parted ..
pub parted : SameBands (coder_after_turns (take 1 spoken)) (decoder_after_turns (take 1 came)) → ⊥
unfolding within equal
parted b =
    no (ap (λ (z : ℤ). equal z (pos 334)) (sym reset_witnessed.coder_first ∙ ap (λ (l : Band). l.factors.log) b.low
    ∙ reset_witnessed.decoder_first))

-- .. and are equal again after each octet since the reset
pub equal_again : (n : ℕ) → SameBands (foldl speak reset_coder (take n (since spoken))) (foldl hear reset_decoder (take n (since came)))
unfolding since_after
equal_again n = each_octet_since spoken came n (ap (λ (l : List (Turn ℕ)). take n (map upper_six (since l))) reset_witnessed.sends)
