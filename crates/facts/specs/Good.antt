-- Good in, good out: reset is good, and so is what a step or a run of either end makes of a good record.
-- Assumes nothing.
use Rattle.std.specs.Prelude.{◌≡◌, refl, true, ◌&&◌, List, [], ◌∷◌, ◌++◌, ℕ, ℤ, pos, neg_ℤ, ◌-ℤ◌, ◌≤ℤ◌}
use Rattle.std.specs.Int.Signed.{le_z_yes}
use Rattle.laws.specs.Both.{both, left_true, right_true}
use Rattle.laws.specs.Clamp.{clamp_within}
use Rattle.laws.specs.Order.{zarith, sub_read, up_neg, dn_neg}
use Rattle.g722.specs.Arithmetic.{neg, within, equal}
use Rattle.g722.specs.Tables.{ila}
use Rattle.g722.specs.Quantise.{logsc, logscl, logsch, scale_at, scalel, scaleh, low_factors, high_factors}
use Rattle.g722.specs.Band.{uppol2, uppol1, next_poles, next_band, low_after, high_after}
use Rattle.g722.specs.Records.{in_range, all_in_range, good_poles, good_factors, good_low, good_high}
use Rattle.g722.specs.Records.{good_coder, good_decoder, reset_band, reset_coder, reset_decoder}
use Rattle.g722.specs.Coding.{window, coder_step, coder_after}
use Rattle.g722.specs.Decoding.{rl_row, rh_row, decoder_step, decoder_after}
use Rattle.g722.specs.declared.Poles.{Poles}
use Rattle.g722.specs.declared.Band.{Band}
use Rattle.g722.specs.declared.Coder.{Coder}
use Rattle.g722.specs.declared.Decoder.{Decoder}
use Rattle.facts.specs.Reach.{reach_exact, reach_negated}
use Rattle.g722.specs.Within.{is_within, equal_refl}
use Rattle.facts.specs.Range.{range_append, range_drop, rl_in_range, rh_in_range}

-- ---- a band after a word

-- the new second coefficient keeps its bounds
pub second : (s : Poles) (p : ℤ) → (neg 12288 ≤ℤ uppol2 s p) × (uppol2 s p ≤ℤ pos 12288)
unfolding uppol2
second s p = clamp_within (neg 12288) (pos 12288) _ (le_z_yes tt)

first : (s : Poles) (p b : ℤ) → neg 12288 ≤ℤ b → b ≤ℤ pos 12288
    → (neg_ℤ (pos 15360 -ℤ b) ≤ℤ uppol1 s b p) × (uppol1 s b p ≤ℤ (pos 15360 -ℤ b))
unfolding uppol1
first s p b l h =
    rw (reach_exact b l h, reach_negated b l h) (clamp_within (neg_ℤ (pos 15360 -ℤ b)) (pos 15360 -ℤ b) _
    (omega (zarith, sub_read (pos 15360) b, up_neg (pos 15360 -ℤ b), dn_neg (pos 15360 -ℤ b))))

poles_good : (s : Poles) (p r : ℤ) → good_poles (next_poles s p r) ≡ true
unfolding good_poles next_poles uppol2
poles_good s p r =
    let d : (neg 12288 ≤ℤ uppol2 s p) × (uppol2 s p ≤ℤ pos 12288) = clamp_within (neg 12288) (pos 12288) _ (le_z_yes tt) in
    let e = first s p (uppol2 s p) d.0 d.1 in
    both (is_within d.0 d.1) (is_within e.0 e.1)

factors_good : (top w nb : ℤ) (scale : ℤ → ℤ) → pos 0 ≤ℤ top
    → good_factors top scale (record { log = logsc top w nb; scale = scale (logsc top w nb) }) ≡ true
unfolding good_factors logsc
factors_good top w nb scale h = let d = clamp_within (pos 0) top _ h in both (is_within d.0 d.1) (equal_refl _)

pub low_good : (s : Band) (il : ℕ) → good_low (low_after s il) ≡ true
unfolding good_low low_after next_band low_factors logscl
low_good s il = both (poles_good s.poles _ _) (factors_good (pos 18432) _ _ scalel (le_z_yes tt))

pub high_good : (s : Band) (ih : ℕ) → good_high (high_after s ih) ≡ true
unfolding good_high high_after next_band high_factors logsch
high_good s ih = both (poles_good s.poles _ _) (factors_good (pos 22528) _ _ scaleh (le_z_yes tt))

-- a band that is good has good poles
pub low_poles : (s : Band) → good_low s ≡ true → good_poles s.poles ≡ true
unfolding good_low
low_poles s g = left_true (good_poles s.poles) (good_factors (pos 18432) scalel s.factors) g

pub high_poles : (s : Band) → good_high s ≡ true → good_poles s.poles ≡ true
unfolding good_high
high_poles s g = left_true (good_poles s.poles) (good_factors (pos 22528) scaleh s.factors) g

-- ---- the coder

pub coder_poles : (c : Coder) → good_coder c ≡ true → (good_poles c.low.poles ≡ true) × (good_poles c.high.poles ≡ true)
unfolding good_coder
coder_poles c g =
    let bands = left_true (good_low c.low && good_high c.high) (all_in_range c.past) g in (
      low_poles c.low (left_true (good_low c.low) (good_high c.high) bands),
      high_poles c.high (right_true (good_low c.low) (good_high c.high) bands),
    )

pub coder_step_good : (c : Coder) (x y : ℤ) → good_coder c ≡ true → in_range x ≡ true → in_range y ≡ true
    → good_coder (coder_step c x y) ≡ true
unfolding good_coder coder_step window all_in_range
coder_step_good c x y g p q =
    let past = right_true (good_low c.low && good_high c.high) (all_in_range c.past) g in
    both (both (low_good c.low _) (high_good c.high _))
    (range_drop 2 (c.past ++ (x ∷ y ∷ [])) (range_append c.past (x ∷ y ∷ []) past (both p (both q refl))))

pub coder_run_good : (c : Coder) (s : List ℤ) → good_coder c ≡ true → all_in_range s ≡ true → good_coder (coder_after c s) ≡ true
unfolding coder_after all_in_range
coder_run_good c [] g p = g
coder_run_good c (x ∷ []) g p = g
coder_run_good c (x ∷ y ∷ rest) g p =
    let q = right_true (in_range x) (in_range y && all_in_range rest) p in
    coder_run_good (coder_step c x y) rest
    (coder_step_good c x y g (left_true (in_range x) (in_range y && all_in_range rest) p) (left_true (in_range y) (all_in_range rest) q))
    (right_true (in_range y) (all_in_range rest) q)

pub coder_reset_good : good_coder reset_coder ≡ true
unfolding good_coder reset_coder reset_band good_low good_high good_poles good_factors all_in_range in_range within equal
    scalel scaleh scale_at ila
coder_reset_good = refl

-- ---- the decoder

pub decoder_step_good : (mode : ℕ) (d : Decoder) (o : ℕ) → good_decoder d ≡ true → good_decoder (decoder_step mode d o) ≡ true
unfolding good_decoder decoder_step rl_row rh_row all_in_range
decoder_step_good mode d o g =
    let bands = good_low d.low && good_high d.high in
    let rh = right_true (bands && all_in_range d.past.rl) (all_in_range d.past.rh) g in
    let rl = right_true bands (all_in_range d.past.rl) (left_true (bands && all_in_range d.past.rl) (all_in_range d.past.rh) g) in
    both (both (both (low_good d.low _) (high_good d.high _))
    (range_drop 1 (d.past.rl ++ (_ ∷ [])) (range_append d.past.rl (_ ∷ []) rl (both (rl_in_range mode d.low o) refl))))
    (range_drop 1 (d.past.rh ++ (_ ∷ [])) (range_append d.past.rh (_ ∷ []) rh (both (rh_in_range d.high o) refl)))

pub decoder_run_good : (mode : ℕ) (d : Decoder) (o : List ℕ) → good_decoder d ≡ true → good_decoder (decoder_after mode d o) ≡ true
unfolding decoder_after
decoder_run_good mode d [] g = g
decoder_run_good mode d (x ∷ rest) g = decoder_run_good mode (decoder_step mode d x) rest (decoder_step_good mode d x g)

pub decoder_reset_good : good_decoder reset_decoder ≡ true
unfolding good_decoder reset_decoder reset_band good_low good_high good_poles good_factors all_in_range in_range within equal
    scalel scaleh scale_at ila
decoder_reset_good = refl
