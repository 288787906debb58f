-- What a record of the machine is: its rows have their lengths, and all its numbers fit 16 bits. Reset is one, and so is what a step
-- or a run of either end makes of one. Of a record in memory this is so by its type; a record that stands as bytes needs it said.
-- Assumes nothing.
use Rattle.std.specs.Prelude.{◌≡◌, refl, Bool, true, ◌&&◌, ℕ, zero, suc, ◌+◌, ◌<◌, ltb, ℤ, pos, length, get_or, take, drop, replicate}
use Rattle.std.proofs.Common.{ap, ◌∙◌, arith, ltb-true, ltb-false, ltb→lt, lit<, length-append}
use mathlib.Core.List.{List, [], ◌∷◌, ◌++◌, zip_with}
use Rattle.std.proofs.Math.ListN.{get_or-eq_default}
use Rattle.std.specs.Int.Signed.{mag, lt_z}
use Rattle.std.specs.Int.{w16}
use Rattle.laws.specs.Both.{left_true, right_true}
use Rattle.laws.specs.Clamp.{clamp, clamp_low, clamp_high, clamp_mid}
use Rattle.laws.specs.Every.{each_at}
use Rattle.laws.specs.Order.{by_test, size_within}
use Rattle.laws.specs.Size.{fits_between}
use Rattle.g722.specs.Arithmetic.{neg, add, sub, mul, limit, within}
use Rattle.g722.specs.Within.{within_ends}
use Rattle.g722.specs.Tables.{ila}
use Rattle.g722.specs.Quantise.{inverse, invqal, invqah, logsc, logscl, logsch, scale_at, scalel, scaleh, low_factors, high_factors}
use Rattle.g722.specs.Band.{slide, parrec, recons, upzero, uppol2, reach, uppol1, next_zeros, next_poles, next_band, low_after, high_after}
use Rattle.g722.specs.Records.{in_range, all_in_range, reset_band, reset_coder, reset_decoder}
use Rattle.g722.specs.Coding.{window, coder_step, coder_after}
use Rattle.g722.specs.Decoding.{rl_of, rh_of, rl_row, rh_row, decoder_step, decoder_after}
use Rattle.g722.specs.declared.Factors.{Factors}
use Rattle.g722.specs.declared.Band.{Band}
use Rattle.g722.specs.declared.Coder.{Coder}
use Rattle.g722.specs.declared.Decoder.{Decoder}
use Rattle.facts.specs.Told.{Told, decoder_run, marked, decoder_run_lem}

-- ---- what fits

-- a number of 16 bits
abbrev pub Fit : ℤ → Type 0
Fit z = mag z < 32768

abbrev pub AllFit : List ℤ → Type 0
AllFit [] = Unit {0}
AllFit (z ∷ zs) = Fit z × AllFit zs

-- a row of n such numbers
pub record Row (n : ℕ) (zs : List ℤ) : Type 0 where
  pub long : length zs ≡ n
  pub fit : AllFit zs

-- the two rows of a band, and its other numbers
pub record BandFits (s : Band) : Type 0 where
  pub b : Row 6 s.zeros.b
  pub d : Row 6 s.zeros.d
  pub rest : AllFit (s.poles.a1 ∷ s.poles.a2 ∷ s.poles.r1 ∷ s.poles.r2 ∷ s.poles.p1 ∷ s.poles.p2
      ∷ s.factors.log ∷ s.factors.scale ∷ [])

pub record CoderFits (c : Coder) : Type 0 where
  pub low : BandFits c.low
  pub high : BandFits c.high
  pub past : Row 22 c.past

pub record DecoderFits (d : Decoder) : Type 0 where
  pub low : BandFits d.low
  pub high : BandFits d.high
  pub rl : Row 11 d.past.rl
  pub rh : Row 11 d.past.rh

-- ---- rows

pub fit_append : (xs ys : List ℤ) → AllFit xs → AllFit ys → AllFit (xs ++ ys)
fit_append [] ys p q = q
fit_append (x ∷ xs) ys p q = (p.0, fit_append xs ys p.1 q)

pub fit_at : (zs : List ℤ) → AllFit zs → (k : ℕ) → k < length zs → Fit (get_or zs k (pos 0))
fit_at [] p k h = absurd (omega arith)
fit_at (z ∷ zs) p zero h = p.0
fit_at (z ∷ zs) p (suc k) h = fit_at zs p.1 k (omega arith)

pub fit_take : (k : ℕ) (zs : List ℤ) → AllFit zs → AllFit (take k zs)
fit_take zero zs p = tt
fit_take (suc k) [] p = tt
fit_take (suc k) (z ∷ zs) p = (p.0, fit_take k zs p.1)

pub fit_drop : (k : ℕ) (zs : List ℤ) → AllFit zs → AllFit (drop k zs)
fit_drop zero zs p = p
fit_drop (suc k) [] p = tt
fit_drop (suc k) (z ∷ zs) p = fit_drop k zs p.1

long_drop : (k : ℕ) {n : ℕ} (zs : List ℤ) → length zs ≡ k + n → length (drop k zs) ≡ n
long_drop zero zs e = omega arith
long_drop (suc k) [] e = absurd (omega arith)
long_drop (suc k) (z ∷ zs) e = long_drop k zs (omega arith)

-- new ones join a row, and as many of the oldest leave it
row_moved : (k : ℕ) {n : ℕ} (past new : List ℤ) → Row n past → Row k new → Row n (drop k (past ++ new))
row_moved k {n} past new p q =
    record {
      long = long_drop k (past ++ new) (length-append past new ∙ (let a = p.long in let b = q.long in omega arith));
      fit = fit_drop k (past ++ new) (fit_append past new p.fit q.fit);
    }

zeros_fit : (n : ℕ) → Row n (replicate n (pos 0))
zeros_fit zero = record { long = refl; fit = tt }
zeros_fit (suc n) = let r = zeros_fit n in record { long = ap suc r.long; fit = (lit< tt, r.fit) }

row_zip : (f : ℤ → ℤ → ℤ) → ((x y : ℤ) → Fit (f x y)) → (n : ℕ) (xs ys : List ℤ) → length xs ≡ n → length ys ≡ n
    → Row n (zip_with f xs ys)
unfolding zip_with
row_zip f h n [] ys e g = record { long = e; fit = tt }
row_zip f h n (x ∷ xs) [] e g = absurd (omega arith)
row_zip f h zero (x ∷ xs) (y ∷ ys) e g = absurd (omega arith)
row_zip f h (suc n) (x ∷ xs) (y ∷ ys) e g =
    let r = row_zip f h n xs ys (omega arith) (omega arith) in
    record { long = ap suc r.long; fit = (h x y, r.fit) }

-- ---- what arithmetic gives

clamp_fits : (lo hi z : ℤ) → Fit lo → Fit hi → Fit (clamp lo hi z)
clamp_fits lo hi z f g =
    by_test (lt_z z lo)
    (λ e. rw (clamp_low lo hi z e) f)
    (λ e. by_test (lt_z hi z)
    (λ k. rw (clamp_high lo hi z e k) g)
    (λ k. rw (clamp_mid lo hi z e k)
    (fits_between {w = w16} {lo = lo} {hi = hi} {z = z} (record { sfits = f }) (record { sfits = g }) e k).sfits))

stopped : (z : ℤ) → Fit (clamp (neg 32768) (pos 32767) z)
stopped z = clamp_fits (neg 32768) (pos 32767) z (lit< tt) (lit< tt)

add_fits : (a b : ℤ) → Fit (add a b)
unfolding add
add_fits a b = stopped _

sub_fits : (a b : ℤ) → Fit (sub a b)
unfolding sub
sub_fits a b = stopped _

mul_fits : (a b : ℤ) → Fit (mul a b)
unfolding mul
mul_fits a b = stopped _

limit_fits : (z : ℤ) → Fit (limit z)
unfolding limit
limit_fits z = clamp_fits (neg 16384) (pos 16383) z (lit< tt) (lit< tt)

pub in_range_fits : (z : ℤ) → in_range z ≡ true → Fit z
unfolding in_range
in_range_fits z e =
    let w = within_ends (neg 16384) (pos 16383) z e in
    omega (arith, size_within 16383 z w.0 w.1)

-- ---- the factors

entry : ℕ → ℕ → Bool
entry k x = ltb x 4096

ila_small : (k : ℕ) → get_or ila k 0 < 4096
unfolding ila entry
ila_small k =
    by_test (ltb k 353)
    (λ e. ltb→lt (get_or ila k 0) 4096 (each_at 0 entry ila tt k (ltb-true k 353 e)))
    (λ e. rw (get_or-eq_default ila 0 (ltb-false k 353 e)) (lit< tt))

scale_fits : (k : ℕ) → Fit (scale_at k)
unfolding scale_at
scale_fits k = let h = ila_small k in omega arith

log_fits : (top w nb : ℤ) → Fit top → Fit (logsc top w nb)
unfolding logsc
log_fits top w nb h = clamp_fits (pos 0) top _ (lit< tt) h

-- ---- a band after a word

next_fits : (s : Band) (d : ℤ) (f : Factors) → BandFits s → Fit d → Fit f.log → Fit f.scale → BandFits (next_band s d f)
unfolding next_band next_zeros next_poles slide parrec recons upzero uppol2 uppol1 reach
next_fits s d f h k l m =
    record {
      b = row_zip (upzero d) (λ x y. add_fits _ _) 6 s.zeros.b s.zeros.d h.b.long h.d.long;
      d = row_moved 1 s.zeros.d (d ∷ []) h.d (record { long = refl; fit = (k, tt) });
      rest = (
        clamp_fits _ _ _ (sub_fits _ _) (sub_fits _ _),
        (
          clamp_fits (neg 12288) (pos 12288) _ (lit< tt) (lit< tt),
          (add_fits _ _, (h.rest.1.1.0, (add_fits _ _, (h.rest.1.1.1.1.0, (l, (m, tt)))))),
        ),
      );
    }

pub low_fits : (s : Band) (il : ℕ) → BandFits s → BandFits (low_after s il)
unfolding low_after invqal inverse low_factors logscl scalel
low_fits s il h = next_fits s _ _ h (mul_fits _ _) (log_fits (pos 18432) _ _ (lit< tt)) (scale_fits _)

pub high_fits : (s : Band) (ih : ℕ) → BandFits s → BandFits (high_after s ih)
unfolding high_after invqah inverse high_factors logsch scaleh
high_fits s ih h = next_fits s _ _ h (mul_fits _ _) (log_fits (pos 22528) _ _ (lit< tt)) (scale_fits _)

reset_band_fits : (scale : ℤ) → Fit scale → BandFits (reset_band scale)
unfolding reset_band
reset_band_fits scale h =
    let none : Fit (pos 0) = lit< tt in
    let row : Row 6 (replicate 6 (pos 0)) = zeros_fit 6 in
    record { b = row; d = row; rest = (none, (none, (none, (none, (none, (none, (none, (h, tt)))))))) }

-- ---- the coder

pub coder_step_fits : (c : Coder) (x y : ℤ) → CoderFits c → Fit x → Fit y → CoderFits (coder_step c x y)
unfolding coder_step window
coder_step_fits c x y h p q =
    record {
      low = low_fits c.low _ h.low;
      high = high_fits c.high _ h.high;
      past = row_moved 2 c.past (x ∷ y ∷ []) h.past (record { long = refl; fit = (p, (q, tt)) });
    }

pub coder_run_fits : (c : Coder) (s : List ℤ) → CoderFits c → all_in_range s ≡ true → CoderFits (coder_after c s)
unfolding coder_after all_in_range
coder_run_fits c [] h p = h
coder_run_fits c (x ∷ []) h p = h
coder_run_fits c (x ∷ y ∷ rest) h p =
    let q = right_true (in_range x) (in_range y && all_in_range rest) p in
    coder_run_fits (coder_step c x y) rest
    (coder_step_fits c x y h (in_range_fits x (left_true (in_range x) (in_range y && all_in_range rest) p))
    (in_range_fits y (left_true (in_range y) (all_in_range rest) q)))
    (right_true (in_range y) (all_in_range rest) q)

pub coder_reset_fits : CoderFits reset_coder
unfolding reset_coder
coder_reset_fits =
    record { low = reset_band_fits (pos 32) (lit< tt); high = reset_band_fits (pos 8) (lit< tt); past = zeros_fit 22 }

-- ---- the decoder

pub decoder_step_fits : (mode : ℕ) (d : Decoder) (o : ℕ) → DecoderFits d → DecoderFits (decoder_step mode d o)
unfolding decoder_step rl_row rh_row rl_of rh_of
decoder_step_fits mode d o h =
    record {
      low = low_fits d.low _ h.low;
      high = high_fits d.high _ h.high;
      rl = row_moved 1 d.past.rl (_ ∷ []) h.rl (record { long = refl; fit = (limit_fits _, tt) });
      rh = row_moved 1 d.past.rh (_ ∷ []) h.rh (record { long = refl; fit = (limit_fits _, tt) });
    }

-- a run in which each octet is told a mode of its own, and one in a single mode
pub decoder_told_fits : (d : Decoder) (ts : List Told) → DecoderFits d → DecoderFits (decoder_run d ts)
unfolding decoder_run
decoder_told_fits d [] h = h
decoder_told_fits d (t ∷ ts) h = decoder_told_fits (decoder_step t.mode d t.octet) ts (decoder_step_fits t.mode d t.octet h)

pub decoder_run_fits : (mode : ℕ) (d : Decoder) (o : List ℕ) → DecoderFits d → DecoderFits (decoder_after mode d o)
decoder_run_fits mode d o h = rw (decoder_run_lem mode d o) (decoder_told_fits d (marked mode o) h)

pub decoder_reset_fits : DecoderFits reset_decoder
unfolding reset_decoder
decoder_reset_fits =
    record {
      low = reset_band_fits (pos 32) (lit< tt);
      high = reset_band_fits (pos 8) (lit< tt);
      rl = zeros_fit 11;
      rh = zeros_fit 11;
    }
