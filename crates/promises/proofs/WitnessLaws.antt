-- The run that is there: its numbers, and that its ends are equal after each octet.
-- Assumes nothing.
use Rattle.std.specs.Prelude.{refl, ℕ, ◌*◌, take}
use Rattle.std.proofs.Common.{sym, ap}
use mathlib.Core.List.{map, flat_map, zip_with}
use Rattle.laws.specs.Clamp.{clamp}
use Rattle.g722.specs.Arithmetic.{add, sub, mul, same_sign, within, equal, limit, limited, overloads}
use Rattle.g722.specs.Tables.{h, q6, qq6, qq5, qq4, wl, q2, qq2, wh, ila}
use Rattle.g722.specs.Words.{to_six, from_four, from_six, from_five, to_two, from_two}
use Rattle.g722.specs.Quantise.{level, at_or_below, quantise, quantl, quanth, inverse, invqal, invqah, in_force, invqbl}
use Rattle.g722.specs.Quantise.{logsc, logscl, logsch, scale_at, scalel, scaleh, low_factors, high_factors}
use Rattle.g722.specs.Band.{slide, term, sums, filtez, filtep, predic, parrec, recons, gain, upzero, four, turned, uppol2, reach, uppol1}
use Rattle.g722.specs.Band.{next_zeros, next_poles, next_band, low_after, high_after}
use Rattle.g722.specs.Mirror.{sum, coefficient, xin, accuma, accumb, lowt, hight, xd, xs, accumc, accumd}
use Rattle.g722.specs.Octet.{octet}
use Rattle.g722.specs.Records.{in_range, all_in_range, good_poles, good_factors, good_low, good_high, good_coder, good_decoder}
use Rattle.g722.specs.Records.{reset_band, reset_coder, reset_decoder}
use Rattle.g722.specs.Coding.{window, il_of, ih_of, octet_of, coder_step, octets_of, coder_after, split_in_full}
use Rattle.g722.specs.Coding.{first_bad, misfit, not_coded, coded, code_call}
use Rattle.g722.specs.Decoding.{yl_of, yh_of, rl_of, rh_of, rl_row, rh_row, first_of, second_of, decoder_step}
use Rattle.g722.specs.Decoding.{samples_in_full, samples_of, decoder_after, not_decoded, decoded, decode_call}
use Rattle.g722.specs.Cue.{bits, bits_of, spelt, carrying, unfilled, data_number, data_call, put_call}
use Rattle.facts.specs.Upper.{upper_six}
use Rattle.facts.specs.Told.{decoder_run}
use Rattle.promises.proofs.Through.{answers, of_accepted}
use Rattle.promises.proofs.Sequences.{samples_taken, octets_taken}
use Rattle.promises.proofs.SameBands.{SameBands}
use Rattle.promises.proofs.Carried.{with_data}
use Rattle.promises.proofs.CarriedLaws.{data_carried}
use Rattle.promises.proofs.Witness.{calls, parcels, Witnessed}

pub witnessed : Witnessed
unfolding zip_with flat_map clamp add sub mul same_sign within equal limit limited overloads h q6 qq6 qq5 qq4 wl q2 qq2 wh ila
    to_six from_four from_six from_five to_two from_two
    level at_or_below quantise quantl quanth inverse invqal invqah in_force invqbl
    logsc logscl logsch scale_at scalel scaleh low_factors high_factors
    slide term sums filtez filtep predic parrec recons gain upzero four turned uppol2 reach uppol1
    next_zeros next_poles next_band low_after high_after
    sum coefficient xin accuma accumb lowt hight xd xs accumc accumd octet
    in_range all_in_range good_poles good_factors good_low good_high good_coder good_decoder reset_band reset_coder reset_decoder
    window il_of ih_of octet_of coder_step octets_of coder_after split_in_full first_bad misfit not_coded coded code_call
    yl_of yh_of rl_of rh_of rl_row rh_row first_of second_of decoder_step samples_in_full samples_of decoder_after not_decoded decoded decode_call
    bits bits_of spelt carrying unfilled data_number data_call put_call answers of_accepted
witnessed = record { codes = refl; sends = refl; puts = refl; carries = refl; decodes = refl; comes = refl }

-- and so its ends are equal after each octet
pub witness_ends_equal : (n : ℕ) → SameBands (coder_after reset_coder (take (2 * n) (samples_taken reset_coder calls)))
    (decoder_run reset_decoder (take n (octets_taken reset_decoder (map with_data parcels))))
witness_ends_equal n =
    (data_carried calls parcels witnessed.sends).0 (octets_taken reset_decoder (map with_data parcels)) n
    (ap (λ l. take n (map upper_six l)) (sym witnessed.comes))
