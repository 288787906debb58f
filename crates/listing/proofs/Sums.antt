-- Sums 14 and 15, no input, and where a take begins: of the whole listing.
-- Assumes nothing.
use Rattle.std.specs.Prelude.{◌≡◌, refl, ℕ, replicate}
use mathlib.Core.List.{List, [], ◌∷◌, ◌++◌, zip_with}
use Rattle.laws.specs.Clamp.{clamp}
use Rattle.g722.specs.Arithmetic.{add, sub, mul, limit, limited, overloads, same_sign, within, equal}
use Rattle.g722.specs.Tables.{h, qq6, qq5, qq4, wl, qq2, wh, ila}
use Rattle.g722.specs.Words.{from_four, from_six, from_five, from_two}
use Rattle.g722.specs.Quantise.{inverse, invqal, invqah, invqbl}
use Rattle.g722.specs.Quantise.{logsc, logscl, logsch, scale_at, scalel, scaleh, low_factors, high_factors}
use Rattle.g722.specs.Band.{slide, term, sums, filtez, filtep, predic, parrec, recons, gain, upzero, four, turned, uppol2, reach, uppol1}
use Rattle.g722.specs.Band.{next_zeros, next_poles, next_band, low_after, high_after}
use Rattle.g722.specs.Mirror.{sum, coefficient, xd, xs, accumc, accumd}
use Rattle.g722.specs.Records.{in_range, all_in_range, good_poles, good_factors, good_low, good_high, good_decoder, reset_band, reset_decoder}
use Rattle.g722.specs.Decoding.{yl_of, yh_of, rl_of, rh_of, rl_row, rh_row, first_of, second_of, decoder_step}
use Rattle.g722.specs.Decoding.{samples_in_full, samples_of, decoder_after, decoded}
use Rattle.block.specs.Check.{bit_step, bit_steps, byte_step, check_from, check}
use Rattle.block.specs.Layout.{body, block_of}
use Rattle.block.specs.Calls.{between, allowed, all_zero, well_formed, read_call}
use Rattle.playing.specs.Run.{onward}
use Rattle.playing.specs.Play.{start_player, begins, afresh, decoder_for, reported, played_from, play_call}
use Rattle.lines.specs.Decimal.{spelled, decimal, signed}
use Rattle.lines.specs.Lines.{block_line, refused_line}
use Rattle.lines.specs.Text.{ascii}
use Rattle.listing.specs.Listed.{listed}
use Rattle.listing.specs.Listing.{cut, pieces, start, lines_from, listing}

-- no input, no lines
pub nothing : listing [] ≡ []
unfolding listing pieces cut lines_from
nothing = refl

-- 14. 512 zero bytes, and 511
pub zeros : listing (replicate 512 0) ≡ ascii "refused 7 0\n" ∷ []
unfolding listing pieces cut lines_from start listed play_call read_call check check_from byte_step bit_steps bit_step refused_line decimal
    spelled ascii
zeros = refl

pub short : listing (replicate 511 0) ≡ ascii "refused 6 0\n" ∷ []
unfolding listing pieces cut lines_from start listed play_call read_call refused_line decimal spelled ascii
short = refl

-- a block of one octet FA, in mode 1
abbrev block : ℕ → ℕ → List ℕ
block number place = block_of number place 1 (0xFA ∷ [])

-- 15. take 7, block 0
abbrev one : List ℕ
one = block 7 0

-- by itself; before a block that is refused, after which nothing is listed; and six times, where each goes on from the one before, but
-- for block 0 in mid-take and for another take
pub one_octet : (listing one ≡ ascii "7 0 1 1 0 -1 0\n" ∷ [])
    × (listing (one ++ (replicate 512 0 ++ one)) ≡ ascii "7 0 1 1 0 -1 0\n" ∷ ascii "refused 7 1\n" ∷ [])
    × (listing (one ++ block 7 1 ++ one ++ block 7 1 ++ block 8 1 ++ block 8 2)
    ≡ ascii "7 0 1 1 0 -1 0\n"
    ∷ ascii "7 1 1 1 -1 0 0\n"
    ∷ ascii "7 0 1 1 0 -1 0\n"
    ∷ ascii "7 1 1 1 -1 0 0\n"
    ∷ ascii "8 1 1 1 0 -1 0\n"
    ∷ ascii "8 2 1 1 -1 0 0\n"
    ∷ [])
unfolding listing pieces cut lines_from start onward listed play_call read_call check check_from byte_step bit_steps bit_step block_of body
    well_formed allowed between all_zero start_player begins afresh decoder_for played_from reported block_line refused_line decimal spelled
    signed ascii good_decoder good_low good_high good_poles good_factors in_range all_in_range reset_decoder reset_band samples_in_full samples_of
    decoder_after decoded decoder_step first_of second_of yl_of yh_of rl_of rh_of rl_row rh_row accumc accumd xd xs sum coefficient h limit
    limited overloads clamp add sub mul same_sign within equal invqbl invqal invqah inverse from_four from_five from_six from_two qq4 qq5 qq6
    qq2 recons predic filtez filtep term sums scalel scaleh scale_at ila zip_with logsc logscl logsch low_factors high_factors slide parrec
    gain upzero four turned uppol2 reach uppol1 next_zeros next_poles next_band low_after high_after wl wh
one_octet = (refl, refl, refl)
