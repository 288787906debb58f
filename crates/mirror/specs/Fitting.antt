-- What a block that fits gives: the run of its filter; and where all signals are in range the receive filter's run is the one with exact
-- sums, `joined_in_full`, since no difference and no sum of two signals in range is stopped.
-- Assumes nothing.
use Rattle.std.specs.Prelude.{◌≡◌, refl, true, not, ◌&&◌, List, [], ◌∷◌, ◌++◌, map, ℕ, zero, suc, ◌+◌, ◌*◌, ◌-◌, ◌≤◌, ltb, eqb, ℤ, pos, ◌+ℤ◌, ◌-ℤ◌, ◌*ℤ◌, length}
use Rattle.std.proofs.Math.Path.{ap}
use Rattle.std.proofs.Common.{◌∙◌, ltb-false, eqb-true, le-ltb, eq-eqb}
use native.Mathlib.Omega.{arith}
use Rattle.std.proofs.lemmas.Bool.{not-true}
use Rattle.laws.specs.Both.{both, left_true, right_true}
use Rattle.laws.specs.Clamp.{clamp_id}
use Rattle.laws.specs.Order.{zarith, add_read, sub_read}
use Rattle.laws.specs.Outcome.{Outcome}
use Rattle.g722.specs.Arithmetic.{neg, shr, add, sub, within, limit, overloads}
use Rattle.g722.specs.Mirror.{coefficient, xd, xs, accumc, accumd}
use Rattle.g722.specs.Records.{in_range, all_in_range}
use Rattle.g722.specs.Within.{within_ends}
use Rattle.g722.specs.Steps.{pairs_next, joined_in_full, joined_of, pairs_after}
use Rattle.g722.specs.declared.Pairs.{Pairs}
use Rattle.facts.specs.Range.{range_append, range_drop}
use Rattle.mirror.specs.declared.Joined.{Joined}
use Rattle.mirror.specs.Rows.{nth, taps_at, sum_same}
use Rattle.mirror.specs.Block.{block_fits, split_run, split_block, stopped_xd, stopped_xs, joined_stopped, join_run, join_block}

pub block_fits_lem : (samples low high : ℕ) → low ≤ 160 → samples ≡ 2 * low → high ≡ low → block_fits samples low high ≡ true
unfolding block_fits
block_fits_lem samples low high m s h = simp (le-ltb 160 low m, eq-eqb samples (2 * low) s, eq-eqb high low h)

pub fit_lengths : (samples low high : ℕ) → block_fits samples low high ≡ true → (low ≤ 160) × (samples ≡ 2 * low) × (high ≡ low)
unfolding block_fits
fit_lengths samples low high e =
    let first = left_true (not (ltb 160 low) && eqb samples (2 * low)) (eqb high low) e in (
      ltb-false 160 low (not-true (ltb 160 low) (left_true (not (ltb 160 low)) (eqb samples (2 * low)) first)),
      eqb-true samples (2 * low) (right_true (not (ltb 160 low)) (eqb samples (2 * low)) first),
      eqb-true high low (right_true (not (ltb 160 low) && eqb samples (2 * low)) (eqb high low) e),
    )

pub split_fits : (past samples low high : List ℤ) → block_fits (length samples) (length low) (length high) ≡ true
    → split_block past samples low high ≡ split_run past samples
unfolding split_block
split_fits past samples low high e = rw e

pub join_runs : (past : Pairs) (low high samples : List ℤ) → block_fits (length samples) (length low) (length high) ≡ true
    → join_block past low high samples ≡ join_run past low high
unfolding join_block
join_runs past low high samples e = rw e

-- the receive filter over a run of signals in range
abbrev pub joined_run : Pairs → List ℤ → List ℤ → Outcome Joined (List ℤ)
joined_run past low high =
    record {
      answer = record { limited = overloads (joined_in_full past low high); past = pairs_after past low high };
      left = joined_of past low high;
    }

-- ---- sums of two numbers in range are not stopped

module _ (a b : ℤ) (p : in_range a ≡ true) (q : in_range b ≡ true) where
  sub_exact : sub a b ≡ a -ℤ b
  unfolding sub in_range
  sub_exact =
      let v = within_ends (neg 16384) (pos 16383) a p in
      let w = within_ends (neg 16384) (pos 16383) b q in
      clamp_id (neg 32768) (pos 32767) (a -ℤ b) (omega (zarith, sub_read a b)) (omega (zarith, sub_read a b))

  add_exact : add a b ≡ a +ℤ b
  unfolding add in_range
  add_exact =
      let v = within_ends (neg 16384) (pos 16383) a p in
      let w = within_ends (neg 16384) (pos 16383) b q in
      clamp_id (neg 32768) (pos 32767) (a +ℤ b) (omega (zarith, add_read a b)) (omega (zarith, add_read a b))

range_at : (s : List ℤ) (k : ℕ) → all_in_range s ≡ true → in_range (nth s k) ≡ true
unfolding all_in_range in_range within
range_at [] k e = refl
range_at (x ∷ s) zero e = left_true (in_range x) (all_in_range s) e
range_at (x ∷ s) (suc k) e = range_at s k (right_true (in_range x) (all_in_range s) e)

-- so of twelve pairs in range XOUT1 and XOUT2 are those of G.722
module _ (rl rh : List ℤ) (p : all_in_range rl ≡ true) (q : all_in_range rh ≡ true) where
  first_exact : shr (taps_at 0 (stopped_xd rl rh) 0) 12 ≡ accumc rl rh
  unfolding taps_at accumc xd
  first_exact =
      ap (λ (z : ℤ). shr z 12) (sum_same _ _ 12 (λ i h.
      let e : 2 * i + 0 ≡ 2 * i = omega arith in
      let k : 0 + 11 - i ≡ 11 - i = omega arith in
      λ j. coefficient (e j) *ℤ (ap (stopped_xd rl rh) k ∙ sub_exact _ _ (range_at rl (11 - i) p) (range_at rh (11 - i) q)) j))

  second_exact : shr (taps_at 1 (stopped_xs rl rh) 0) 12 ≡ accumd rl rh
  unfolding taps_at accumd xs
  second_exact =
      ap (λ (z : ℤ). shr z 12) (sum_same _ _ 12 (λ i h.
      let k : 0 + 11 - i ≡ 11 - i = omega arith in
      λ j. coefficient (2 * i + 1) *ℤ (ap (stopped_xs rl rh) k ∙ add_exact _ _ (range_at rl (11 - i) p) (range_at rh (11 - i) q)) j))

-- ---- a run of signals in range

-- one more number joins a row, and stays in range
grown : (s : List ℤ) (x : ℤ) → all_in_range s ≡ true → in_range x ≡ true → all_in_range (s ++ (x ∷ [])) ≡ true
unfolding all_in_range
grown s x p q = range_append s (x ∷ []) p (both q refl)

pub record PairsInRange (p : Pairs) (low high : List ℤ) : Type 0 where
  pub past_rl : all_in_range p.rl ≡ true
  pub past_rh : all_in_range p.rh ≡ true
  pub lows : all_in_range low ≡ true
  pub highs : all_in_range high ≡ true

pub stopped_exact : (p : Pairs) (low high : List ℤ) → PairsInRange p low high → joined_stopped p low high ≡ joined_in_full p low high
unfolding joined_stopped joined_in_full all_in_range pairs_next
stopped_exact p [] high r = refl
stopped_exact p (x ∷ low) [] r = refl
stopped_exact p (x ∷ low) (y ∷ high) r =
    let a = p.rl ++ (x ∷ []) in
    let b = p.rh ++ (y ∷ []) in
    let rl = grown p.rl x r.past_rl (left_true (in_range x) (all_in_range low) r.lows) in
    let rh = grown p.rh y r.past_rh (left_true (in_range y) (all_in_range high) r.highs) in
    let rest : PairsInRange (pairs_next p x y) low high =
    record {
      past_rl = range_drop 1 a rl;
      past_rh = range_drop 1 b rh;
      lows = right_true (in_range x) (all_in_range low) r.lows;
      highs = right_true (in_range y) (all_in_range high) r.highs;
    } in
    λ j. first_exact a b rl rh j ∷ second_exact a b rl rh j ∷ stopped_exact (pairs_next p x y) low high rest j

-- THE LAW: of a block that fits, with all signals in range
pub join_fits : (past : Pairs) (low high samples : List ℤ) → block_fits (length samples) (length low) (length high) ≡ true
    → PairsInRange past low high → join_block past low high samples ≡ joined_run past low high
unfolding joined_of
join_fits past low high samples e r =
    join_runs past low high samples e
    ∙ λ j. record {
      answer = record { limited = overloads (stopped_exact past low high r j); past = pairs_after past low high };
      left = map limit (stopped_exact past low high r j);
    }
