-- The four operations, each made block after block: what it did of the first a turns, and what it then does of those from a to e, is what
-- it does of the first e; so a record stays good from block to block, and the count small.
-- Assumes nothing.
use Rattle.std.specs.Prelude.{◌≡◌, true, ℕ, ◌+◌, ◌-◌, ◌*◌, ◌≤◌, length, drop}
use Rattle.std.proofs.Math.Path.{ap}
use Rattle.std.proofs.Common.{◌∙◌, length-take-le}
use mathlib.Core.List.{List, ◌++◌, map, map-append}
use native.Mathlib.Omega.{arith}
use Rattle.std.proofs.Math.IntN.{ℤ}
use Rattle.std.proofs.Math.ListN.{take}
use Rattle.laws.specs.Outcome.{Does}
use Rattle.laws.specs.Blocks.{front_more, block_more}
use Rattle.g722.specs.Arithmetic.{limit, overloads}
use Rattle.g722.specs.Records.{all_in_range, good_coder, good_decoder}
use Rattle.g722.specs.Coding.{split_in_full, coded}
use Rattle.g722.specs.Decoding.{yl_of, yh_of, rl_of, rh_of, samples_in_full, decoded}
use Rattle.g722.specs.Steps.{band_after, low_next, high_next, yls_of, yhs_of, rls_of, rhs_of, heard_after, heard}
use Rattle.g722.specs.Steps.{joined_in_full, joined_of, joined_after, joined}
use Rattle.g722.specs.declared.Coder.{Coder}
use Rattle.g722.specs.Answers.{Coded, Decoded}
use Rattle.g722.specs.declared.Decoder.{Decoder}
use Rattle.facts.specs.Told.{full_length}
use Rattle.facts.specs.Steps.{record_cut, full_cut, samples_cut, signals_cut, band_cut, joined_cut, pairs_cut, joined_most}
use Rattle.facts.specs.Overload.{overloads_append, overloads_most}
use Rattle.facts.specs.CodedRuns.{pairs, counted_most, coder_join, octets_join, full_join}
use Rattle.facts.specs.Good.{coder_run_good, decoder_run_good}
use Rattle.facts.specs.Signals.{signals_length, heard_good, joined_good}

-- the answer of an accepted call
abbrev pub coder_done : ℕ → Coder → Coded
coder_done n c = record { number = 0; index = 0; limited = n; next = c }

abbrev pub done : ℕ → Decoder → Decoded
done n d = record { number = 0; index = 0; limited = n; next = d }

-- ---- coding

module _ (c : Coder) (s : List ℤ) where
  pub coded_more : {a e : ℕ} {r t : Coded} {l m : List ℕ} → a ≤ e → 2 * a ≤ length s → Does (coded c (take (2 * a) s)) r l
      → Does (coded r.next (take (2 * e - 2 * a) (drop (2 * a) s))) t m
      → Does (coded c (take (2 * e) s)) (coder_done (r.limited + t.limited) t.next) (l ++ m)
  unfolding coded
  coded_more {a = a} {e = e} h k =
      let xs = take (2 * a) s in
      let ys = take (2 * e - 2 * a) (drop (2 * a) s) in
      let p = pairs xs a (length-take-le (2 * a) s k) in
      let count = ap overloads (full_join c ys p) ∙ overloads_append (split_in_full c.past xs) _ in
      let twice : 2 * a ≤ 2 * e = omega arith in
      block_more coded (λ (t : Coded). t.limited) (λ (t : Coded). t.next) coder_done ◌++◌
      (ap (coded c) (front_more twice s) ∙ λ i. record { answer = coder_done (count i) (coder_join c ys p i); left = octets_join c ys p i })

  module _ {r : Coded} {l : List ℕ} (f : Does (coded c s) r l) where
    pub coded_next_good : good_coder c ≡ true → all_in_range s ≡ true → good_coder r.next ≡ true
    unfolding coded
    coded_next_good g p = ap (λ (t : Coded). good_coder t.next) f.answer ∙ coder_run_good c s g p

    pub coded_few : r.limited ≤ length s
    unfolding coded
    coded_few = omega (arith, ap (λ (t : Coded). t.limited) f.answer, counted_most c.past s)

-- ---- decoding

module _ (mode : ℕ) (d : Decoder) (o : List ℕ) where
  pub decoded_more : {a e : ℕ} {r t : Decoded} {l m : List ℤ} → a ≤ e → Does (decoded mode d (take a o)) r l
      → Does (decoded mode r.next (take (e - a) (drop a o))) t m
      → Does (decoded mode d (take e o)) (done (r.limited + t.limited) t.next) (l ++ m)
  unfolding decoded
  decoded_more {a = a} {e = e} h =
      let xs = take a o in
      let ys = take (e - a) (drop a o) in
      let count = ap overloads (full_cut mode d xs ys) ∙ overloads_append (samples_in_full mode d xs) _ in
      block_more (decoded mode) (λ (t : Decoded). t.limited) (λ (t : Decoded). t.next) done ◌++◌
      (ap (decoded mode d) (front_more h o)
      ∙ λ i. record { answer = done (count i) (record_cut mode d xs ys i); left = samples_cut mode d xs ys i })

  module _ {r : Decoded} {l : List ℤ} (f : Does (decoded mode d o) r l) where
    pub decoded_next_good : good_decoder d ≡ true → good_decoder r.next ≡ true
    unfolding decoded
    decoded_next_good g = ap (λ (t : Decoded). good_decoder t.next) f.answer ∙ decoder_run_good mode d o g

    pub decoded_few : r.limited ≤ 2 * length o
    unfolding decoded
    decoded_few =
        omega (arith, ap (λ (t : Decoded). t.limited) f.answer, overloads_most (samples_in_full mode d o), full_length mode d o)

-- ---- its first step

module _ (mode : ℕ) (d : Decoder) (o : List ℕ) where
  -- how many signals were limited, low and high together
  abbrev over : Decoder → List ℕ → ℕ
  over t os = overloads (yls_of mode t.low os) + overloads (yhs_of t.high os)

  over_cut : (xs ys : List ℕ) → over d (xs ++ ys) ≡ over d xs + over (heard_after d xs) ys
  unfolding heard_after yls_of yhs_of
  over_cut xs ys =
      omega (
        arith,
        ap overloads (signals_cut low_next (yl_of mode) d.low xs ys),
        ap overloads (signals_cut high_next yh_of d.high xs ys),
        overloads_append (yls_of mode d.low xs) (yls_of mode (band_after low_next d.low xs) ys),
        overloads_append (yhs_of d.high xs) (yhs_of (band_after high_next d.high xs) ys),
      )

  pub heard_more : {a e : ℕ} {r t : Decoded} {l h l' h' : List ℤ} → a ≤ e → Does (heard mode d (take a o)) r (l, h)
      → Does (heard mode r.next (take (e - a) (drop a o))) t (l', h')
      → Does (heard mode d (take e o)) (done (r.limited + t.limited) t.next) (l ++ l', h ++ h')
  unfolding heard heard_after rls_of rhs_of
  heard_more {a = a} {e = e} h =
      let xs = take a o in
      let ys = take (e - a) (drop a o) in
      block_more (heard mode) (λ (t : Decoded). t.limited) (λ (t : Decoded). t.next) done
      (λ (x y : List ℤ × List ℤ). (x.0 ++ y.0, x.1 ++ y.1))
      (ap (heard mode d) (front_more h o)
      ∙ λ i. record {
        answer =
            done (over_cut xs ys i)
            (record { low = band_cut low_next d.low xs ys i; high = band_cut high_next d.high xs ys i; past = d.past });
        left = (signals_cut low_next (rl_of mode) d.low xs ys i, signals_cut high_next rh_of d.high xs ys i);
      })

  module _ {r : Decoded} {l : List ℤ × List ℤ} (f : Does (heard mode d o) r l) where
    pub heard_next_good : good_decoder d ≡ true → good_decoder r.next ≡ true
    unfolding heard
    heard_next_good g = ap (λ (t : Decoded). good_decoder t.next) f.answer ∙ heard_good d o g

    pub heard_few : r.limited ≤ 2 * length o
    unfolding heard yls_of yhs_of
    heard_few =
        omega (
          arith,
          ap (λ (t : Decoded). t.limited) f.answer,
          overloads_most (yls_of mode d.low o),
          overloads_most (yhs_of d.high o),
          signals_length (yl_of mode) low_next d.low o,
          signals_length yh_of high_next d.high o,
        )

-- ---- its second step

module _ (d : Decoder) (low high : List ℤ) where
  pub joined_more : {a e : ℕ} {r t : Decoded} {l m : List ℤ} → a ≤ e → length (take a high) ≡ length (take a low)
      → Does (joined d (take a low) (take a high)) r l
      → Does (joined r.next (take (e - a) (drop a low)) (take (e - a) (drop a high))) t m
      → Does (joined d (take e low) (take e high)) (done (r.limited + t.limited) t.next) (l ++ m)
  unfolding joined joined_after joined_of
  joined_more {a = a} {e = e} h n =
      let xs = take a low in
      let ys = take (e - a) (drop a low) in
      let xs' = take a high in
      let ys' = take (e - a) (drop a high) in
      let full = joined_cut d.past xs xs' ys ys' n in
      let count = ap overloads full ∙ overloads_append (joined_in_full d.past xs xs') _ in
      block_more (λ (t : Decoder) (x : List ℤ × List ℤ). joined t x.0 x.1) (λ (t : Decoded). t.limited) (λ (t : Decoded). t.next)
      done ◌++◌
      ((λ i. joined d (front_more h low i) (front_more h high i))
      ∙ λ i. record {
        answer = done (count i) (record { low = d.low; high = d.high; past = pairs_cut d.past xs xs' ys ys' n i });
        left = (ap (map limit) full ∙ map-append limit (joined_in_full d.past xs xs') _) i;
      })

  module _ {r : Decoded} {l : List ℤ} (f : Does (joined d low high) r l) where
    pub joined_next_good : good_decoder d ≡ true → all_in_range low ≡ true → all_in_range high ≡ true → good_decoder r.next ≡ true
    unfolding joined
    joined_next_good g p q = ap (λ (t : Decoded). good_decoder t.next) f.answer ∙ joined_good d low high g p q

    pub joined_few : r.limited ≤ 2 * length low
    unfolding joined
    joined_few =
        omega (
          arith,
          ap (λ (t : Decoded). t.limited) f.answer,
          overloads_most (joined_in_full d.past low high),
          joined_most d.past low high,
        )
