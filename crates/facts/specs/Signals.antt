-- The two steps of decoding, of runs: as many signals as octets, each in range, which is all that joining asks of them; and good in,
-- good out of each step.
-- Assumes nothing.
use Rattle.std.specs.Prelude.{◌≡◌, Bool, true, false, ◌&&◌, ltb, ℤ, drop}
use Rattle.std.proofs.Math.Path.{refl, ap}
use mathlib.Core.List.{List, [], ◌∷◌, ◌++◌}
use Prim.Native.Nat.{ℕ, suc, min, ◌≤◌}
use Rattle.std.proofs.Common.{arith}
use borrow.Author.Tests.{le-ltb, ltb-false}
use Rattle.std.proofs.Math.ListN.{length}
use Rattle.laws.specs.Both.{both, left_true, right_true}
use Rattle.g722.specs.Records.{in_range, all_in_range, good_poles, good_low, good_high, good_decoder}
use Rattle.g722.specs.Octet.{high_word, low_word}
use Rattle.g722.specs.Coding.{first_bad}
use Rattle.g722.specs.Decoding.{rl_of, rh_of}
use Rattle.g722.specs.Steps.{signals_of, band_after, low_next, high_next, rls_of, rhs_of, heard_after}
use Rattle.g722.specs.Steps.{pairs_next, pairs_after, joined_after, first_bad_pair}
use Rattle.g722.specs.declared.Band.{Band}
use Rattle.g722.specs.declared.Pairs.{Pairs}
use Rattle.g722.specs.declared.Decoder.{Decoder}
use Rattle.facts.specs.Range.{range_append, range_drop, all_clean, none_bad_pair, rl_in_range, rh_in_range}
use Rattle.facts.specs.Good.{low_good, high_good, low_poles, high_poles}

-- ---- a band over a run

module _ {A : Type 0} (signal : Band → A → ℤ) (next : Band → A → Band) where
  pub signals_length : (s : Band) (os : List A) → length (signals_of signal next s os) ≡ length os
  unfolding signals_of
  signals_length s [] = refl
  signals_length s (o ∷ os) = ap suc (signals_length (next s o) os)

  pub signals_in_range : ((s : Band) (o : A) → in_range (signal s o) ≡ true)
      → (s : Band) (os : List A) → all_in_range (signals_of signal next s os) ≡ true
  unfolding signals_of all_in_range
  signals_in_range each s [] = refl
  signals_in_range each s (o ∷ os) = both (each s o) (signals_in_range each (next s o) os)

-- what every next band is, the band after a run is, if the first is
pub band_after_lem : {A : Type 0} (next : Band → A → Band) (good : Band → Bool) → ((s : Band) (o : A) → good (next s o) ≡ true)
    → (s : Band) (os : List A) → good s ≡ true → good (band_after next s os) ≡ true
unfolding band_after
band_after_lem next good each s [] g = g
band_after_lem next good each s (o ∷ os) g = band_after_lem next good each (next s o) os (each s o)

-- RL and RH
pub rls_length : (mode : ℕ) (s : Band) (os : List ℕ) → length (rls_of mode s os) ≡ length os
unfolding rls_of
rls_length mode = signals_length (rl_of mode) low_next

pub rhs_length : (s : Band) (os : List ℕ) → length (rhs_of s os) ≡ length os
unfolding rhs_of
rhs_length = signals_length rh_of high_next

pub rls_in_range : (mode : ℕ) (s : Band) (os : List ℕ) → all_in_range (rls_of mode s os) ≡ true
unfolding rls_of
rls_in_range mode = signals_in_range (rl_of mode) low_next (rl_in_range mode)

pub rhs_in_range : (s : Band) (os : List ℕ) → all_in_range (rhs_of s os) ≡ true
unfolding rhs_of
rhs_in_range = signals_in_range rh_of high_next rh_in_range

-- ---- what is in range has no bad pair, and the other way round

module _ (low high : List ℤ) (e : length high ≡ length low) where
  pub no_bad_pair : all_in_range low ≡ true → all_in_range high ≡ true → ltb (first_bad_pair low high) (length low) ≡ false
  no_bad_pair p q = le-ltb _ _ (none_bad_pair low high e (both p q))

  pub pairs_clean : ltb (first_bad_pair low high) (length low) ≡ false → (all_in_range low ≡ true) × (all_in_range high ≡ true)
  unfolding first_bad_pair
  pairs_clean f =
      let h : length low ≤ min (first_bad low) (first_bad high) = ltb-false _ _ f in
      (all_clean low (omega arith), all_clean high (omega arith))

-- ---- good in, good out

-- what is good in a record
pub record GoodParts (d : Decoder) : Type 0 where
  pub low : good_low d.low ≡ true
  pub high : good_high d.high ≡ true
  pub rl : all_in_range d.past.rl ≡ true
  pub rh : all_in_range d.past.rh ≡ true

pub parts : (d : Decoder) → good_decoder d ≡ true → GoodParts d
unfolding good_decoder
parts d g =
    let bands = good_low d.low && good_high d.high in
    let but = left_true (bands && all_in_range d.past.rl) (all_in_range d.past.rh) g in
    let b = left_true bands (all_in_range d.past.rl) but in
    record {
      low = left_true (good_low d.low) (good_high d.high) b;
      high = right_true (good_low d.low) (good_high d.high) b;
      rl = right_true bands (all_in_range d.past.rl) but;
      rh = right_true (bands && all_in_range d.past.rl) (all_in_range d.past.rh) g;
    }

whole : (d : Decoder) → GoodParts d → good_decoder d ≡ true
unfolding good_decoder
whole d p = both (both (both p.low p.high) p.rl) p.rh

-- its bands have good poles
pub decoder_poles : (d : Decoder) → good_decoder d ≡ true → (good_poles d.low.poles ≡ true) × (good_poles d.high.poles ≡ true)
decoder_poles d g = let p = parts d g in (low_poles d.low p.low, high_poles d.high p.high)

-- the first step makes good bands, and leaves the past pairs
pub heard_good : (d : Decoder) (os : List ℕ) → good_decoder d ≡ true → good_decoder (heard_after d os) ≡ true
unfolding heard_after
heard_good d os g =
    let p = parts d g in
    whole _ (record {
      low = band_after_lem low_next good_low (λ s o. low_good s (low_word o)) d.low os p.low;
      high = band_after_lem high_next good_high (λ s o. high_good s (high_word o)) d.high os p.high;
      rl = p.rl;
      rh = p.rh;
    })

-- a row of past signals after one more
row_good : (row : List ℤ) (x : ℤ) → all_in_range row ≡ true → in_range x ≡ true → all_in_range (drop 1 (row ++ (x ∷ []))) ≡ true
unfolding all_in_range
row_good row x p q = range_drop 1 (row ++ (x ∷ [])) (range_append row (x ∷ []) p (both q refl))

-- the second step keeps the past pairs in range where the signals are, and leaves the bands
pairs_good : (p : Pairs) (low high : List ℤ) → all_in_range low ≡ true → all_in_range high ≡ true
    → all_in_range p.rl ≡ true → all_in_range p.rh ≡ true
    → (all_in_range (pairs_after p low high).rl ≡ true) × (all_in_range (pairs_after p low high).rh ≡ true)
unfolding pairs_after pairs_next all_in_range
pairs_good p [] high a b f g = (f, g)
pairs_good p (x ∷ low) [] a b f g = (f, g)
pairs_good p (x ∷ low) (y ∷ high) a b f g =
    pairs_good (pairs_next p x y) low high (right_true (in_range x) (all_in_range low) a) (right_true (in_range y) (all_in_range high) b)
    (row_good p.rl x f (left_true (in_range x) (all_in_range low) a)) (row_good p.rh y g (left_true (in_range y) (all_in_range high) b))

pub joined_good : (d : Decoder) (low high : List ℤ) → good_decoder d ≡ true → all_in_range low ≡ true → all_in_range high ≡ true
    → good_decoder (joined_after d low high) ≡ true
unfolding joined_after
joined_good d low high g a b =
    let p = parts d g in
    let q = pairs_good d.past low high a b p.rl p.rh in
    whole _ (record { low = p.low; high = p.high; rl = q.0; rh = q.1 })
