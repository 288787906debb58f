-- The two laws of the layout: a record of the machine, written and read, is itself; and the bytes of a state, read and written, are
-- themselves. One argument for both records, from values to bytes.
-- Assumes nothing.
use Rattle.std.specs.Prelude.{◌≡◌, refl, true, cond, List, [], ◌∷◌, ℕ, zero, suc, ◌+◌, ◌*◌, ◌<◌, ltb, ℤ, get_or, drop}
use Rattle.std.proofs.Common.{sym, ap, ◌∙◌}
use native.Mathlib.Omega.{arith}
use borrow.Author.Tests.{eq-eqb, lt-ltb, ltb-true, ltb-false}
use Rattle.std.proofs.Math.ListN.{length}
use Rattle.laws.specs.Both.{both}
use Rattle.laws.specs.Order.{by_test}
use Rattle.g722.specs.declared.Coder.{Coder}
use Rattle.g722.specs.declared.Decoder.{Decoder}
use Rattle.facts.specs.Fits.{Fit, AllFit, Row, CoderFits, DecoderFits, fit_at}
use Rattle.big_endian.specs.Bytes.{sample_of, pcm_samples, pcm_bytes, samples_of_bytes, bytes_of_samples, samples_length, bytes_length}
use Rattle.state.specs.Layout.{coder_values, decoder_values, coder_bytes, decoder_bytes, coder_of, decoder_of}
use Rattle.state.specs.Layout.{holds, no_coder, no_decoder, coder_in, decoder_in}
use Rattle.state.proofs.Values.{coder_values_row, coder_of_values, coder_values_of, coder_of_fits}
use Rattle.state.proofs.Values.{decoder_values_row, decoder_of_values, decoder_values_of, decoder_of_fits}

-- the bytes of a state that holds a record of this kind, good or broken
pub record Holds (kind : ℕ) (state : List ℕ) : Type 0 where
  pub long : length state ≡ 125
  pub first : get_or state 0 0 ≡ kind
  pub bytes : (k : ℕ) → k < length state → get_or state k 0 < 256

-- ---- values and their bytes

sample_fits : (high low : ℕ) → high < 256 → low < 256 → Fit (sample_of high low)
unfolding sample_of
sample_fits high low h l =
    by_test (ltb (256 * high + low) 32768)
    (λ e. rw e (ltb-true _ _ e))
    (λ e. let m = ltb-false (256 * high + low) 32768 e in rw (e, lt-ltb (256 * high + low) 65536 (omega arith)) (omega arith))

samples_fit : (b : List ℕ) → ((k : ℕ) → k < length b → get_or b k 0 < 256) → AllFit (pcm_samples b)
unfolding pcm_samples
samples_fit [] h = tt
samples_fit (x ∷ []) h = tt
samples_fit (x ∷ y ∷ b) h =
    (sample_fits x y (h zero (omega arith)) (h (suc zero) (omega arith)), samples_fit b (λ k l. h (suc (suc k)) (omega arith)))

-- ---- a record of whichever kind, by its values

module _ {R : Type 0} (kind : ℕ) (values : R → List ℤ) (of : List ℤ → R) (none : R) where
  abbrev write : R → List ℕ
  write r = kind ∷ pcm_bytes (values r)

  abbrev read : List ℕ → R
  read state = cond (holds kind state) (of (pcm_samples (drop 1 state))) none

  read_written : (r : R) → Row 62 (values r) → of (values r) ≡ r → read (write r) ≡ r
  unfolding holds
  read_written r v e =
      let n = bytes_length (values r) in
      let l = v.long in
      let all : length (write r) ≡ 125 = omega arith in
      rw (eq-eqb _ _ all, eq-eqb kind kind refl) (ap of (samples_of_bytes (values r) (fit_at (values r) v.fit)) ∙ e)

  -- bytes that hold one
  module _ (x : ℕ) (b : List ℕ) (h : Holds kind (x ∷ b)) where
    rest_long : length b ≡ 2 * 62
    rest_long = let e = h.long in omega arith

    rest_bytes : (k : ℕ) → k < length b → get_or b k 0 < 256
    rest_bytes k l = h.bytes (suc k) (omega arith)

    row : Row 62 (pcm_samples b)
    row = record { long = samples_length 62 b rest_long; fit = samples_fit b rest_bytes }

    held : holds kind (x ∷ b) ≡ true
    unfolding holds
    held = both (eq-eqb _ _ h.long) (eq-eqb _ _ h.first)

  written_read : ((v : List ℤ) → length v ≡ 62 → values (of v) ≡ v) → (state : List ℕ) → Holds kind state → write (read state) ≡ state
  written_read back [] h = absurd (let e = h.long in omega arith)
  written_read back (x ∷ b) h =
      rw (held x b h) (λ i. sym h.first i
      ∷ (ap pcm_bytes (back (pcm_samples b) (row x b h).long) ∙ bytes_of_samples 62 b (rest_long x b h) (rest_bytes x b h)) i)

  read_fits : (P : R → Type 0) → ((v : List ℤ) → Row 62 v → P (of v)) → (state : List ℕ) → Holds kind state → P (read state)
  read_fits P fits [] h = absurd (let e = h.long in omega arith)
  read_fits P fits (x ∷ b) h = rw (held x b h) (fits (pcm_samples b) (row x b h))

-- THE LAW: what was written is read back

pub coder_back : (c : Coder) → CoderFits c → coder_in (coder_bytes c) ≡ c
unfolding coder_in coder_bytes
coder_back c h = read_written 1 coder_values coder_of no_coder c (coder_values_row c h) (coder_of_values c h)

pub decoder_back : (d : Decoder) → DecoderFits d → decoder_in (decoder_bytes d) ≡ d
unfolding decoder_in decoder_bytes
decoder_back d h = read_written 2 decoder_values decoder_of no_decoder d (decoder_values_row d h) (decoder_of_values d h)

-- THE LAW: what was read is written back

pub coder_bytes_back : (state : List ℕ) → Holds 1 state → coder_bytes (coder_in state) ≡ state
unfolding coder_in coder_bytes
coder_bytes_back = written_read 1 coder_values coder_of no_coder coder_values_of

pub decoder_bytes_back : (state : List ℕ) → Holds 2 state → decoder_bytes (decoder_in state) ≡ state
unfolding decoder_in decoder_bytes
decoder_bytes_back = written_read 2 decoder_values decoder_of no_decoder decoder_values_of

-- and it is a record of the machine

pub coder_in_fits : (state : List ℕ) → Holds 1 state → CoderFits (coder_in state)
unfolding coder_in
coder_in_fits = read_fits 1 coder_values coder_of no_coder CoderFits coder_of_fits

pub decoder_in_fits : (state : List ℕ) → Holds 2 state → DecoderFits (decoder_in state)
unfolding decoder_in
decoder_in_fits = read_fits 2 decoder_values decoder_of no_decoder DecoderFits decoder_of_fits
