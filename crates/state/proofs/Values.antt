-- A record and its 62 values, there and back. A list of a known length is its entries spelled out, and on those both ways compute.
-- Assumes nothing.
use Rattle.std.specs.Prelude.{◌≡◌, List, [], ◌∷◌, ◌++◌, ℕ, zero, suc, ◌+◌, ◌≤◌, ◌<◌, ℤ, pos, get_or}
use Rattle.std.proofs.Math.Path.{refl, sym, ap, subst}
use Rattle.std.proofs.Common.{◌∙◌, arith, length-drop, length-take-le, take_all, drop-drop}
use Rattle.std.proofs.Math.ListN.{length, take, drop, length-append}
use Rattle.std.proofs.Math.Seq.{take_at, drop_at}
use Rattle.g722.specs.declared.Band.{Band}
use Rattle.g722.specs.declared.Coder.{Coder}
use Rattle.g722.specs.declared.Decoder.{Decoder}
use Rattle.facts.specs.Fits.{Fit, AllFit, Row, BandFits, CoderFits, DecoderFits, fit_append, fit_at, fit_take, fit_drop}
use Rattle.state.specs.Layout.{band_values, coder_values, decoder_values, value, part, band_of, coder_of, decoder_of}

-- ---- spelled out

abbrev pub firsts : ℕ → List ℤ → List ℤ
firsts zero l = []
firsts (suc n) l = get_or l 0 (pos 0) ∷ firsts n (drop 1 l)

spelt : (n : ℕ) (l : List ℤ) → length l ≡ n → firsts n l ≡ l
spelt zero [] e = refl
spelt zero (x ∷ l) e = absurd (omega arith)
spelt (suc n) [] e = absurd (omega arith)
spelt (suc n) (x ∷ l) e = ap (λ (t : List ℤ). x ∷ t) (spelt n l (omega arith))

abbrev pub spelled : Band → Band
spelled s =
    record {
      zeros = record { b = firsts 6 s.zeros.b; d = firsts 6 s.zeros.d };
      poles = s.poles;
      factors = s.factors;
    }

pub spelled_same : (s : Band) → BandFits s → spelled s ≡ s
spelled_same s h = λ i. record {
  zeros = record { b = spelt 6 s.zeros.b h.b.long i; d = spelt 6 s.zeros.d h.d.long i };
  poles = s.poles;
  factors = s.factors;
}

-- ---- rows

row_whole : {n : ℕ} {v : List ℤ} → Row n v → take n v ≡ v
row_whole {n} {v} r = let e = r.long in take_all n v (omega arith)

row_at : {m : ℕ} {v : List ℤ} → Row m v → (n k : ℕ) → k + n ≤ m → Row n (part k n v)
row_at {v = v} r n k h =
    let e = r.long in
    let l = length-drop k v in
    record { long = length-take-le n (drop k v) (omega arith); fit = fit_take n (drop k v) (fit_drop k v r.fit) }

-- ---- a record's values give it back

band_back : (s : Band) → BandFits s → band_of (band_values s) ≡ s
unfolding band_of band_values
band_back s h = subst (λ (t : Band). band_of (band_values t) ≡ t) (spelled_same s h) refl

-- a band, before other values
module _ (s : Band) (rest : List ℤ) (h : BandFits s) where
  first_20 : take 20 (band_values s ++ rest) ≡ band_values s
  unfolding band_values
  first_20 = subst (λ (t : Band). take 20 (band_values t ++ rest) ≡ band_values t) (spelled_same s h) refl

  rest_after : drop 20 (band_values s ++ rest) ≡ rest
  unfolding band_values
  rest_after = subst (λ (t : Band). drop 20 (band_values t ++ rest) ≡ rest) (spelled_same s h) refl

  first_long : length (band_values s ++ rest) ≡ 20 + length rest
  unfolding band_values
  first_long = subst (λ (t : Band). length (band_values t ++ rest) ≡ 20 + length rest) (spelled_same s h) (omega arith)

  first_fits : AllFit rest → AllFit (band_values s ++ rest)
  unfolding band_values
  first_fits f =
      fit_append (band_values s) rest
      (fit_append s.zeros.b _ h.b.fit (fit_append s.zeros.d _ h.d.fit h.rest)) f

-- both bands, before what a record has beside them
module _ (low high : Band) (rest : List ℤ) (p : BandFits low) (q : BandFits high) where
  abbrev values : List ℤ
  values = band_values low ++ (band_values high ++ rest)

  low_back : band_of (part 0 20 values) ≡ low
  low_back = ap band_of (first_20 low (band_values high ++ rest) p) ∙ band_back low p

  high_back : band_of (part 20 20 values) ≡ high
  high_back =
      ap (λ (v : List ℤ). band_of (take 20 v)) (rest_after low (band_values high ++ rest) p)
      ∙ ap band_of (first_20 high rest q)
      ∙ band_back high q

  rest_back : drop 40 values ≡ rest
  rest_back = sym (drop-drop 20 20 values) ∙ ap (drop 20) (rest_after low (band_values high ++ rest) p) ∙ rest_after high rest q

  values_long : {n : ℕ} → length rest ≡ n → length values ≡ 40 + n
  values_long e = let a = first_long low (band_values high ++ rest) p in let b = first_long high rest q in omega arith

  values_fit : AllFit rest → AllFit values
  values_fit f = first_fits low (band_values high ++ rest) p (first_fits high rest q f)

module _ (c : Coder) (h : CoderFits c) where
  pub coder_values_row : Row 62 (coder_values c)
  unfolding coder_values
  coder_values_row =
      record {
        long = values_long c.low c.high c.past h.low h.high h.past.long;
        fit = values_fit c.low c.high c.past h.low h.high h.past.fit;
      }

  pub coder_of_values : coder_of (coder_values c) ≡ c
  unfolding coder_of coder_values
  coder_of_values = λ i. record {
    low = low_back c.low c.high c.past h.low h.high i;
    high = high_back c.low c.high c.past h.low h.high i;
    past = (ap (take 22) (rest_back c.low c.high c.past h.low h.high) ∙ row_whole h.past) i;
  }

module _ (d : Decoder) (h : DecoderFits d) where
  abbrev pairs : List ℤ
  pairs = d.past.rl ++ d.past.rh

  pub decoder_values_row : Row 62 (decoder_values d)
  unfolding decoder_values
  decoder_values_row =
      let n = length-append d.past.rl d.past.rh ∙ (λ i. h.rl.long i + h.rh.long i) in
      record {
        long = values_long d.low d.high pairs h.low h.high n;
        fit = values_fit d.low d.high pairs h.low h.high (fit_append d.past.rl _ h.rl.fit h.rh.fit);
      }

  pub decoder_of_values : decoder_of (decoder_values d) ≡ d
  unfolding decoder_of decoder_values
  decoder_of_values =
      let rl = d.past.rl in
      let rh = d.past.rh in
      let e = rest_back d.low d.high pairs h.low h.high in
      let f = sym (drop-drop 11 40 (decoder_values d)) ∙ ap (drop 11) e ∙ drop_at rl rh 11 h.rl.long in λ i. record {
        low = low_back d.low d.high pairs h.low h.high i;
        high = high_back d.low d.high pairs h.low h.high i;
        past = record {
          rl = (ap (take 11) e ∙ take_at rl rh 11 h.rl.long) i;
          rh = (ap (take 11) f ∙ row_whole h.rh) i;
        };
      }

-- ---- 62 values are given back by their record

pub coder_values_of : (v : List ℤ) → length v ≡ 62 → coder_values (coder_of v) ≡ v
unfolding coder_values coder_of band_values band_of
coder_values_of v e = subst (λ (t : List ℤ). coder_values (coder_of t) ≡ t) (spelt 62 v e) refl

pub decoder_values_of : (v : List ℤ) → length v ≡ 62 → decoder_values (decoder_of v) ≡ v
unfolding decoder_values decoder_of band_values band_of
decoder_values_of v e = subst (λ (t : List ℤ). decoder_values (decoder_of t) ≡ t) (spelt 62 v e) refl

-- ---- and it is a record of the machine where they fit

band_fits : (v : List ℤ) → Row 20 v → BandFits (band_of v)
unfolding band_of
band_fits v r =
    let e = r.long in
    let at : (k : ℕ) → k < 20 → Fit (value v k) = λ k l. fit_at v r.fit k (omega arith) in
    record {
      b = row_at r 6 0 (omega arith);
      d = row_at r 6 6 (omega arith);
      rest = (
        at 12 (omega arith),
        (
          at 13 (omega arith),
          (
            at 14 (omega arith),
            (
              at 15 (omega arith),
              (at 16 (omega arith), (at 17 (omega arith), (at 18 (omega arith), (at 19 (omega arith), tt)))),
            ),
          ),
        ),
      );
    }

module _ (v : List ℤ) (r : Row 62 v) where
  low_fits : BandFits (band_of (part 0 20 v))
  low_fits = band_fits (part 0 20 v) (row_at r 20 0 (omega arith))

  high_fits : BandFits (band_of (part 20 20 v))
  high_fits = band_fits (part 20 20 v) (row_at r 20 20 (omega arith))

  pub coder_of_fits : CoderFits (coder_of v)
  unfolding coder_of
  coder_of_fits = record { low = low_fits; high = high_fits; past = row_at r 22 40 (omega arith) }

  pub decoder_of_fits : DecoderFits (decoder_of v)
  unfolding decoder_of
  decoder_of_fits =
      record { low = low_fits; high = high_fits; rl = row_at r 11 40 (omega arith); rh = row_at r 11 51 (omega arith) }
