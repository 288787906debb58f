-- One name for each file of the meaning, which opens all that stands in it: for proofs that compute with the whole.
-- Assumes nothing.
use mathlib.Core.List.{zip_with}
use Rattle.laws.specs.Clamp.{clamp}
use Rattle.g722.specs.Arithmetic.{add, sub, mul, same_sign, within, equal, limit, limited, changes, overloads}
use Rattle.g722.specs.Tables.{h, q6, qq6, qq5, qq4, wl, q2, qq2, wh, ila}
use Rattle.g722.specs.Words.{to_six, from_four, from_six, from_five, to_two, from_two}
use Rattle.g722.specs.Quantise.{level, at_or_below, quantise, quantl, quanth, inverse, invqal, invqah, in_force, invqbl}
use Rattle.g722.specs.Quantise.{logsc, logscl, logsch, scale_at, scalel, scaleh, low_factors, high_factors}
use Rattle.g722.specs.Band.{slide, term, sums, filtez, filtep, predic, parrec, recons, gain, upzero}
use Rattle.g722.specs.Band.{four, turned, uppol2, reach, uppol1, next_zeros, next_poles, next_band, low_after, high_after}
use Rattle.g722.specs.Mirror.{sum, coefficient, xin, accuma, accumb, lowt, hight, xd, xs, accumc, accumd}
use Rattle.g722.specs.Octet.{octet}
use Rattle.g722.specs.Records.{in_range, all_in_range, good_poles, good_factors, good_low, good_high, good_coder, good_decoder}
use Rattle.g722.specs.Records.{reset_band, reset_coder, reset_decoder}
use Rattle.g722.specs.Coding.{window, il_of, ih_of, octet_of, coder_step, octets_of, coder_after, split_in_full}
use Rattle.g722.specs.Coding.{first_bad, misfit, not_coded, coded, code_call}
use Rattle.g722.specs.Decoding.{yl_of, yh_of, rl_of, rh_of, rl_row, rh_row, first_of, second_of, decoder_step}
use Rattle.g722.specs.Decoding.{samples_in_full, samples_of, decoder_after, not_decoded, decoded, decode_call}
use Rattle.g722.specs.Steps.{signals_of, band_after, yls_of, yhs_of, rls_of, rhs_of, heard_after, unpaired, not_heard, heard, hear_call}
use Rattle.g722.specs.Steps.{pairs_next, joined_in_full, joined_of, pairs_after, joined_after, first_bad_pair, not_joined, joined, join_call}
use Rattle.g722.specs.Cue.{bits, bits_of, spelt, gathered, carrying, unfilled, data_number, data_call, put_call, take_call}

unfoldable pub arithmetic : Unit {0}
unfolding clamp add sub mul same_sign within equal limit limited changes overloads
arithmetic = tt

unfoldable pub tables : Unit {0}
unfolding h q6 qq6 qq5 qq4 wl q2 qq2 wh ila
tables = tt

unfoldable pub words : Unit {0}
unfolding to_six from_four from_six from_five to_two from_two octet
words = tt

unfoldable pub quantising : Unit {0}
unfolding arithmetic tables words level at_or_below quantise quantl quanth inverse invqal invqah in_force invqbl
quantising = tt

unfoldable pub scaling : Unit {0}
unfolding quantising logsc logscl logsch scale_at scalel scaleh low_factors high_factors
scaling = tt

unfoldable pub predicting : Unit {0}
unfolding arithmetic zip_with slide term sums filtez filtep predic parrec recons
predicting = tt

unfoldable pub adapting : Unit {0}
unfolding scaling predicting gain upzero four turned uppol2 reach uppol1 next_zeros next_poles next_band low_after high_after
adapting = tt

unfoldable pub filters : Unit {0}
unfolding arithmetic tables sum coefficient xin accuma accumb lowt hight xd xs accumc accumd
filters = tt

unfoldable pub bounds : Unit {0}
unfolding scaling in_range all_in_range good_poles good_factors good_low good_high good_coder good_decoder reset_band reset_coder reset_decoder
bounds = tt

unfoldable pub coding : Unit {0}
unfolding adapting filters bounds window il_of ih_of octet_of coder_step octets_of coder_after split_in_full first_bad misfit not_coded coded code_call
coding = tt

unfoldable pub hearing : Unit {0}
unfolding adapting filters bounds yl_of yh_of rl_of rh_of rl_row rh_row first_of second_of decoder_step samples_in_full samples_of decoder_after
hearing = tt

unfoldable pub decoding : Unit {0}
unfolding hearing misfit not_decoded decoded decode_call
decoding = tt

-- its two steps
unfoldable pub listening : Unit {0}
unfolding hearing signals_of band_after yls_of yhs_of rls_of rhs_of heard_after unpaired not_heard heard hear_call
listening = tt

unfoldable pub joining : Unit {0}
unfolding filters bounds first_bad misfit pairs_next joined_in_full joined_of pairs_after joined_after first_bad_pair not_joined joined join_call
joining = tt

unfoldable pub cueing : Unit {0}
unfolding bits bits_of spelt gathered carrying unfilled data_number data_call put_call take_call
cueing = tt

-- all of it
unfoldable pub meaning : Unit {0}
unfolding coding decoding listening joining cueing
meaning = tt
