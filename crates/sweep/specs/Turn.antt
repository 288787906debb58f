-- A turn of a band's loop, from the output of the transversal part: what it makes of the numbers in 32 bits is what the definitions make of
-- the record that they stand for.
-- Assumes nothing.
use Rattle.std.specs.Prelude.{◌≡◌, refl, Bool, true, false, cond, List, ℕ, ◌*◌, ◌/◌, ℤ, pos, get_or}
use Rattle.g722.specs.Arithmetic.{add, sub, mul}
use Rattle.g722.specs.Quantise.{quantl, quanth, inverse, invqal, invqah, low_factors, high_factors, logscl, logsch}
use Rattle.g722.specs.Band.{filtez, filtep, predic, parrec, recons, next_zeros, next_poles, next_band, low_after, high_after}
use Rattle.g722.specs.declared.Zeros.{Zeros}
use Rattle.g722.specs.declared.Poles.{Poles}
use Rattle.g722.specs.declared.Factors.{Factors}
use Rattle.g722.specs.declared.Band.{Band}
use Rattle.at_hand.specs.Signed.{signed_of, output_at, weight_at}
use Rattle.idle.specs.Recursive.{poles_of}
use Rattle.idle.specs.Factors.{factors_of, weighed}
use Rattle.sweep.specs.Octet.{word_in}
use Rattle.sweep.specs.declared.Turned.{Turned}

-- what a turn stands for: the difference, and the next of all but the transversal part
pub record Step : Type 0 where
  pub d : ℤ
  pub poles : Poles
  pub factors : Factors

unfoldable pub step_of : Turned → Step
step_of t = record { d = t.d; poles = poles_of t.poles; factors = factors_of t.factors }

-- by a word of six bits, after the prediction s
unfoldable pub step_by : Bool → Poles → Factors → ℤ → ℤ → ℕ → Step
step_by high p f sz s w =
    let d = mul f.scale (output_at high 3 w) in
    record { d = d; poles = next_poles p (add d sz) (add s d); factors = weighed high (weight_at high (w / 4)) f }

-- ---- the turns of either end

-- at the coder: the word of the difference between signal and prediction, and the step by it
pub record CodedBy (high : Bool) (p : Poles) (f : Factors) (sz x : ℤ) (r : ℕ × Turned) : Type 0 where
  pub word :
      let e = sub x (add (filtep p) sz) in
      r.0 ≡ cond high (quanth e f.scale * 4) (quantl e f.scale)
  pub step : step_of r.1 ≡ step_by high p f sz (add (filtep p) sz) r.0

-- at the decoder: the signal by the outputs of the mode, and the step by the word
pub record HeardBy (high : Bool) (h : List ℤ) (p : Poles) (f : Factors) (sz : ℤ) (o : ℕ) (r : ℤ × Turned) : Type 0 where
  pub signal : r.0 ≡ add (add (filtep p) sz) (mul f.scale (get_or h (word_in high o) (pos 0)))
  pub step : step_of r.1 ≡ step_by high p f sz (add (filtep p) sz) (word_in high o)

-- ---- a turn is a step of the band

abbrev pub band_of : Zeros → Poles → Factors → Band
band_of z p f = record { zeros = z; poles = p; factors = f }

-- the band after a word of six bits
unfoldable pub after_word : Bool → Band → ℕ → Band
after_word high s w = cond high (high_after s (w / 4)) (low_after s w)

-- what a turn of either end does to each band that has these parts
pub record ByTurn {A B : Type 0} (out : Band → A → B) (next : Band → A → Band) (p : Poles) (f : Factors) (sz : ℤ) (x : A) (r : B × Turned) : Type 0 where
  pub gives : (z : Zeros) → sz ≡ filtez z → r.0 ≡ out (band_of z p f) x
  pub goes : (z : Zeros) → sz ≡ filtez z
      → band_of (next_zeros z r.1.d) (poles_of r.1.poles) (factors_of r.1.factors) ≡ next (band_of z p f) x

pub turn_after : (high : Bool) (z : Zeros) (p : Poles) (f : Factors) (w : ℕ)
    → let t = step_by high p f (filtez z) (add (filtep p) (filtez z)) w in
    band_of (next_zeros z t.d) t.poles t.factors ≡ after_word high (band_of z p f) w
unfolding step_by after_word high_after low_after next_band parrec recons predic output_at signed_of inverse invqah invqal weighed weight_at
    high_factors low_factors logsch logscl
turn_after true z p f w = refl
turn_after false z p f w = refl
