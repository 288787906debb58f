-- A loop's start and end, and what a turn at either end does to a band. On plain values.
-- Assumes nothing.
use mathlib.Core.Path.{◌≡◌, refl, ap, ◌∙◌}
use mathlib.Core.Bool.{Bool, true, false, cond}
use mathlib.Core.List.{List}
use Prim.Native.Nat.{ℕ, ◌+◌, ◌*◌, ◌/◌, ◌%◌, ◌≤◌, ◌<◌}
use native.Mathlib.Nat.{div-add-mod'}
use native.Mathlib.Omega.{arith}
use lib.IntN.{ℤ, pos}
use lib.ListN.{length, get_or, set}
use Rattle.laws.specs.Outcome.{Does}
use Rattle.laws.specs.Machine.{SoFar, more, state_ended, given_ended, last, outs}
use Rattle.g722.specs.Arithmetic.{add, sub, mul}
use Rattle.g722.specs.Quantise.{quantl, quanth, invqah, invqbl}
use Rattle.g722.specs.Band.{filtez, filtep, predic, recons, next_zeros, low_after, high_after}
use Rattle.g722.specs.Octet.{low_word, high_word}
use Rattle.g722.specs.Coding.{high_word_of}
use Rattle.g722.specs.Decoding.{yl_of, yh_of}
use Rattle.g722.specs.declared.Zeros.{Zeros}
use Rattle.g722.specs.declared.Poles.{Poles}
use Rattle.g722.specs.declared.Factors.{Factors}
use Rattle.g722.specs.declared.Band.{Band}
use Rattle.at_hand.specs.Signed.{output_at, outputs_of}
use Rattle.at_hand.proofs.Signed.{outputs_at, invqah_by, invqbl_by}
use Rattle.idle.specs.Recursive.{poles_of}
use Rattle.idle.specs.Factors.{factors_of}
use Rattle.sweep.specs.Block.{word_of, coded_next, signal_of, heard_next, run_of}
use Rattle.sweep.specs.Turn.{Step, step_of, step_by, CodedBy, HeardBy, ByTurn, band_of, after_word, turn_after}
use Rattle.sweep.specs.Octet.{word_in}
use Rattle.sweep.specs.declared.Turned.{Turned}

-- a loop begins where the parts of a band are widened
pub started : {A B : Type 0} {out : Band → A → B} {next : Band → A → Band} {s : Band} {xs : List A} {o₀ : List B} {z : Zeros} {p : Poles} {f : Factors}
    → z ≡ s.zeros → p ≡ s.poles → f ≡ s.factors → SoFar out next s xs o₀ (band_of z p f) o₀ 0
started {out = out} {next} {xs = xs} {o₀} z≡ p≡ f≡ =
    record {
      long = refl;
      state = λ j. last next (band_of (z≡ j) (p≡ j) (f≡ j)) xs;
      given = λ j. outs out next (band_of (z≡ j) (p≡ j) (f≡ j)) xs;
    }

-- a turn on
pub turned_on : {A B : Type 0} {out : Band → A → B} {next : Band → A → Band} {s : Band} {xs : List A} {o₀ ys : List B} {i : ℕ} {z z' : Zeros}
    {p : Poles} {f : Factors} {sz : ℤ} {x : A} {r : B × Turned}
    → SoFar out next s xs o₀ (band_of z p f) ys i → x ≡ get_or xs i x → i < length xs → i < length ys → sz ≡ filtez z
    → ByTurn out next p f sz x r → z' ≡ next_zeros z r.1.d
    → SoFar out next s xs o₀ (band_of z' (poles_of r.1.poles) (factors_of r.1.factors)) (set ys i r.0) (i + 1)
turned_on {out = out} {next} {z = z} {p = p} {f} {x = x} {r} v is h k sz≡ by z≡ =
    more _ _ _ _ _ v x h k (by.gives z sz≡ ∙ ap (out (band_of z p f)) is)
    ((λ j. band_of (z≡ j) (poles_of r.1.poles) (factors_of r.1.factors)) ∙ by.goes z sz≡ ∙ ap (next (band_of z p f)) is)

-- at the end the band that the parts stand for and what was given are the run's
pub ended : {A B : Type 0} {out : Band → A → B} {next : Band → A → Band} {s t : Band} {xs : List A} {o₀ ys : List B} {i : ℕ}
    → SoFar out next s xs o₀ t ys i → length xs ≤ i → length ys ≤ i → {z : Zeros} {p : Poles} {f : Factors}
    → z ≡ t.zeros → p ≡ t.poles → f ≡ t.factors → Does (run_of out next s xs) (band_of z p f) ys
ended v h k z≡ p≡ f≡ =
    record {
      answer = (λ j. band_of (z≡ j) (p≡ j) (f≡ j)) ∙ state_ended _ _ _ _ _ v h;
      left = given_ended _ _ _ _ _ v h k;
    }

-- ---- a turn

-- the band after the word of a signal
after_said : (high : Bool) (s : Band) (x : ℤ) → after_word high s (word_of high s x) ≡ coded_next high s x
unfolding after_word word_of coded_next
after_said true s x =
    let e : high_word_of s x * 4 / 4 ≡ high_word_of s x = omega (arith, div-add-mod' (high_word_of s x * 4) 4) in
    ap (high_after s) e
after_said false s x = refl

-- an octet's word in six bits, and what goes by it
in_six : (high : Bool) (o : ℕ) → word_in high o < 64
unfolding word_in
in_six high o = omega (arith, div-add-mod' (o / cond high 16 1) 64)

high_in : (o : ℕ) → o < 256 → word_in true o / 4 ≡ high_word o
unfolding word_in
high_in o h = omega (arith, div-add-mod' o 16, div-add-mod' (o / 16) 64, div-add-mod' (o / 16 % 64) 4, div-add-mod' o 64)

low_in : (o : ℕ) → word_in false o ≡ low_word o
unfolding word_in
low_in o = let e : o / 1 ≡ o = omega (arith, div-add-mod' o 1) in ap (λ (n : ℕ). n % 64) e

by_output : (high : Bool) (mode : ℕ) (s : Band) (o : ℕ) → o < 256
    → add (predic s) (mul s.factors.scale (output_at high mode (word_in high o))) ≡ signal_of high mode s o
unfolding signal_of yl_of yh_of recons
by_output true mode s o h =
    ap (add (predic s)) (invqah_by mode (word_in true o) s.factors.scale ∙ ap (λ (w : ℕ). invqah w s.factors.scale) (high_in o h))
by_output false mode s o h =
    ap (add (predic s)) (invqbl_by mode (word_in false o) s.factors.scale ∙ ap (λ (w : ℕ). invqbl mode w s.factors.scale) (low_in o))

after_heard : (high : Bool) (s : Band) (o : ℕ) → o < 256 → after_word high s (word_in high o) ≡ heard_next high s o
unfolding after_word heard_next
after_heard true s o h = ap (high_after s) (high_in o h)
after_heard false s o h = ap (low_after s) (low_in o)

module _ (high : Bool) (z : Zeros) (p : Poles) (f : Factors) {sz : ℤ} (sz≡ : sz ≡ filtez z) where
  abbrev s : Band
  s = band_of z p f

  -- the band after a step by its word
  by_word : (w : ℕ) {t : Step} {z' : Zeros} → t ≡ step_by high p f sz (add (filtep p) sz) w → z' ≡ next_zeros z t.d
      → band_of z' t.poles t.factors ≡ after_word high s w
  by_word w {t} t≡ z≡ =
      let e : t ≡ step_by high p f (filtez z) (add (filtep p) (filtez z)) w = t≡ ∙ λ j. step_by high p f (sz≡ j) (add (filtep p) (sz≡ j)) w in
      (λ j. band_of ((z≡ ∙ ap (λ (u : Step). next_zeros z u.d) e) j) (e j).poles (e j).factors) ∙ turn_after high z p f w

  module _ {x : ℤ} {r : ℕ × Turned} (h : CodedBy high p f sz x r) where
    pub said : r.0 ≡ word_of high s x
    unfolding word_of predic
    said =
        h.word
        ∙ λ j. let e = sub x (add (filtep p) (sz≡ j)) in cond high (quanth e f.scale * 4) (quantl e f.scale)

    pub coded_turn : {z' : Zeros} → z' ≡ next_zeros z r.1.d
        → band_of z' (poles_of r.1.poles) (factors_of r.1.factors) ≡ coded_next high s x
    unfolding step_of
    coded_turn z≡ = by_word r.0 h.step z≡ ∙ ap (after_word high s) said ∙ after_said high s x

  module _ (mode : ℕ) {o : ℕ} (octet : o < 256) {q : List ℤ} (q≡ : q ≡ outputs_of high mode)
      {r : ℤ × Turned} (h : HeardBy high q p f sz o r) where
    pub heard : r.0 ≡ signal_of high mode s o
    unfolding predic
    heard =
        h.signal
        ∙ (λ j. add (add (filtep p) (sz≡ j)) (mul f.scale (get_or (q≡ j) (word_in high o) (pos 0))))
        ∙ ap (λ (v : ℤ). add (add (filtep p) (filtez z)) (mul f.scale v)) (outputs_at high mode (word_in high o) (in_six high o))
        ∙ by_output high mode s o octet

    pub heard_turn : {z' : Zeros} → z' ≡ next_zeros z r.1.d
        → band_of z' (poles_of r.1.poles) (factors_of r.1.factors) ≡ heard_next high s o
    unfolding step_of
    heard_turn z≡ = by_word (word_in high o) h.step z≡ ∙ after_heard high s o octet

-- each end's turn
pub by_coded : (high : Bool) {p : Poles} {f : Factors} {sz x : ℤ} {r : ℕ × Turned} → CodedBy high p f sz x r
    → ByTurn (word_of high) (coded_next high) p f sz x r
by_coded high {p} {f} h =
    record { gives = λ z e. said high z p f e h; goes = λ z e. coded_turn high z p f e h refl }

pub by_heard : (high : Bool) (mode : ℕ) {p : Poles} {f : Factors} {sz : ℤ} {o : ℕ} {q : List ℤ} {r : ℤ × Turned} → o < 256
    → q ≡ outputs_of high mode → HeardBy high q p f sz o r → ByTurn (signal_of high mode) (heard_next high) p f sz o r
by_heard high mode {p} {f} u e h =
    record { gives = λ z k. heard high z p f k mode u e h; goes = λ z k. heard_turn high z p f k mode u e h refl }
