-- What of a sub-band is its own, and the blocks that both bands have, each said once over that. With what is the low band's own they are
-- QUANTL, INVQAL, LOGSCL and SCALEL, with the high band's QUANTH, INVQAH, LOGSCH and SCALEH.
-- Assumes nothing.
use Rattle.std.specs.Prelude.{◌≡◌, refl, List, ℕ, ◌+◌, ◌/◌, ℤ, pos, get_or, drop}
use native.Mathlib.Nat.{add-zero}
use Rattle.g722.specs.Tables.{q6, qq4, wl, q2, qq2, wh}
use Rattle.g722.specs.Words.{to_six, to_two, from_four, from_two}
use Rattle.g722.specs.Quantise.{quantise, inverse, logsc, scale_at, address}
use Rattle.g722.specs.Quantise.{quantl, quanth, invqal, invqah, logscl, logsch, scalel, scaleh, low_factors, high_factors}
use Rattle.g722.specs.declared.Interval.{Interval}
use Rattle.g722.specs.declared.Factors.{Factors}

-- the most that a log factor can be, the address of the scale factor at log factor 0, the decision levels, the outputs of the inverse
-- quantiser, the weights of the log factor, and the words, of which the loop at both ends may go by the upper bits alone
pub record Own : Type 0 where
  pub top : ℤ
  pub first : ℕ
  pub levels : List ℕ
  pub outputs : List ℕ
  pub weights : List ℤ
  pub to_word : Interval → ℕ
  pub from_word : ℕ → Interval

abbrev pub low_own : Own
low_own = record {
  top = pos 18432;
  first = 64;
  levels = drop 1 q6;
  outputs = qq4;
  weights = wl;
  to_word = to_six;
  from_word = λ il. from_four (il / 4);
}

abbrev pub high_own : Own
high_own = record {
  top = pos 22528;
  first = 0;
  levels = drop 1 q2;
  outputs = qq2;
  weights = wh;
  to_word = to_two;
  from_word = from_two;
}

-- the word of a difference, and the difference that the loop at both ends makes of it
abbrev pub word_of : Own → ℤ → ℤ → ℕ
word_of b e scale = b.to_word (quantise b.levels e scale)

abbrev pub difference_of : Own → ℕ → ℤ → ℤ
difference_of b word scale = inverse b.outputs (b.from_word word) scale

-- the next log factor, the scale factor of one, and both after a word
abbrev pub log_of : Own → ℕ → ℤ → ℤ
log_of b word log = logsc b.top (get_or b.weights (b.from_word word).number (pos 0)) log

abbrev pub scale_of : Own → ℤ → ℤ
scale_of b log = scale_at (address log + b.first)

abbrev pub factors_of : Own → Factors → ℕ → Factors
factors_of b f word = record { log = log_of b word f.log; scale = scale_of b (log_of b word f.log) }

-- ---- with what is a band's own they are its blocks

pub low_quant : (e scale : ℤ) → word_of low_own e scale ≡ quantl e scale
unfolding quantl
low_quant e scale = refl

pub high_quant : (e scale : ℤ) → word_of high_own e scale ≡ quanth e scale
unfolding quanth
high_quant e scale = refl

pub low_invqa : (word : ℕ) (scale : ℤ) → difference_of low_own word scale ≡ invqal word scale
unfolding invqal
low_invqa word scale = refl

pub high_invqa : (word : ℕ) (scale : ℤ) → difference_of high_own word scale ≡ invqah word scale
unfolding invqah
high_invqa word scale = refl

pub low_logsc : (word : ℕ) (log : ℤ) → log_of low_own word log ≡ logscl word log
unfolding logscl
low_logsc word log = refl

pub high_logsc : (word : ℕ) (log : ℤ) → log_of high_own word log ≡ logsch word log
unfolding logsch
high_logsc word log = refl

pub low_scale : (log : ℤ) → scale_of low_own log ≡ scalel log
unfolding scalel
low_scale log = refl

pub high_scale : (log : ℤ) → scale_of high_own log ≡ scaleh log
unfolding scaleh
high_scale log = rw add-zero

pub low_factors_of : (f : Factors) (word : ℕ) → factors_of low_own f word ≡ low_factors f word
unfolding low_factors logscl scalel
low_factors_of f word = refl

pub high_factors_of : (f : Factors) (word : ℕ) → factors_of high_own f word ≡ high_factors f word
unfolding high_factors logsch scaleh
high_factors_of f word = rw add-zero
