-- The reset bytes, written out; and that bytes which hold no record are read as a broken one.
-- Assumes nothing.
use Rattle.std.specs.Prelude.{◌≡◌, refl, true, false, List, ℕ, eqb, length, get_or}
use Rattle.std.proofs.Common.{eqb-true}
use Rattle.laws.specs.Both.{left_true}
use Rattle.g722.specs.Arithmetic.{within, equal}
use Rattle.g722.specs.Tables.{ila}
use Rattle.g722.specs.Quantise.{scale_at, scalel, scaleh}
use Rattle.g722.specs.Records.{in_range, all_in_range, good_poles, good_factors, good_low, good_high, good_coder, good_decoder}
use Rattle.g722.specs.Records.{reset_band, reset_coder, reset_decoder}
use Rattle.big_endian.specs.Bytes.{word_of, high_of, low_of, pcm_bytes}
use Rattle.state.specs.Layout.{band_values, coder_values, decoder_values, coder_bytes, decoder_bytes}
use Rattle.state.specs.Layout.{holds, no_coder, no_decoder, coder_in, decoder_in}
use Rattle.state.specs.Reset.{reset_bytes}

pub coder_reset_bytes : coder_bytes reset_coder ≡ reset_bytes 1
unfolding reset_bytes coder_bytes coder_values band_values reset_coder reset_band pcm_bytes high_of low_of word_of
coder_reset_bytes = refl

pub decoder_reset_bytes : decoder_bytes reset_decoder ≡ reset_bytes 2
unfolding reset_bytes decoder_bytes decoder_values band_values reset_decoder reset_band pcm_bytes high_of low_of word_of
decoder_reset_bytes = refl

-- ---- no record

no_coder_broken : good_coder no_coder ≡ false
unfolding good_coder no_coder reset_band good_low good_high good_poles good_factors all_in_range in_range within equal scalel scaleh scale_at ila
no_coder_broken = refl

no_decoder_broken : good_decoder no_decoder ≡ false
unfolding good_decoder no_decoder reset_band good_low good_high good_poles good_factors all_in_range in_range within equal scalel scaleh scale_at ila
no_decoder_broken = refl

-- bytes of another length or another kind are read as a broken record
pub unheld_coder_broken : (state : List ℕ) → holds 1 state ≡ false → good_coder (coder_in state) ≡ false
unfolding coder_in
unheld_coder_broken state e = rw e no_coder_broken

pub unheld_decoder_broken : (state : List ℕ) → holds 2 state ≡ false → good_decoder (decoder_in state) ≡ false
unfolding decoder_in
unheld_decoder_broken state e = rw e no_decoder_broken

-- and others have the length of a state
pub held_length : (kind : ℕ) (state : List ℕ) → holds kind state ≡ true → length state ≡ 125
unfolding holds
held_length kind state e = eqb-true _ _ (left_true (eqb (length state) 125) (eqb (get_or state 0 0) kind) e)
