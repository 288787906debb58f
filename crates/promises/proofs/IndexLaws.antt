-- Refusal 4 has the index of the first that is out of range.
-- Assumes nothing.
use Rattle.std.specs.Prelude.{◌≡◌, refl, Bool, true, false, not, ◌&&◌, ◌||◌, List, [], ◌∷◌, ℕ, zero, suc, min, ◌≤◌, ◌<◌, ltb, eqb, ℤ, pos, length, take, get_or}
use Rattle.std.proofs.Common.{le_refl, le_of_suc-le-suc, arith, ltb-true, ltb-false}
use Rattle.laws.specs.Both.{both}
use Rattle.laws.specs.Order.{by_test}
use Rattle.g722.specs.Records.{in_range, all_in_range, good_coder, good_decoder}
use Rattle.g722.specs.Coding.{first_bad, misfit, not_coded, coded, code_call}
use Rattle.g722.specs.Steps.{first_bad_pair, not_joined, joined, join_call}
use Rattle.facts.specs.Lengths.{matched}
use Rattle.g722.specs.declared.Coder.{Coder}
use Rattle.g722.specs.declared.Decoder.{Decoder}
use Rattle.promises.proofs.Index.{FirstBadAt}

-- ---- one list

bad_there : (s : List ℤ) → first_bad s < length s → in_range (get_or s (first_bad s) (pos 0)) ≡ false
unfolding first_bad
bad_there [] h = absurd (omega (arith, h))
bad_there (x ∷ s) h =
    by_test (in_range x)
    (λ e. rw e (let k : suc (first_bad s) < suc (length s) = rw e at h in bad_there s (omega (arith, k))))
    (λ e. rw e e)

clean_before : (n : ℕ) (s : List ℤ) → n ≤ first_bad s → all_in_range (take n s) ≡ true
unfolding first_bad all_in_range
clean_before zero s h = refl
clean_before (suc n) [] h = absurd (omega (arith, h))
clean_before (suc n) (x ∷ s) h =
    by_test (in_range x)
    (λ e. let k : suc n ≤ suc (first_bad s) = rw e at h in both e (clean_before n s (le_of_suc-le-suc k)))
    (λ e. absurd (let k : suc n ≤ zero = rw e at h in omega (arith, k)))

-- ---- two lists of one length

and_false : (a b : Bool) → b ≡ false → (a && b) ≡ false
and_false true b e = e
and_false false b e = refl

pair_bad : (low high : List ℤ) → length high ≡ length low → first_bad_pair low high < length low
    → FirstBadAt (first_bad_pair low high) low high
unfolding first_bad_pair
pair_bad low high l h =
    let a = first_bad low in
    let b = first_bad high in
    record {
      there = h;
      low_before = clean_before (min a b) low (omega arith);
      high_before = clean_before (min a b) high (omega arith);
      bad =
          by_test (ltb b a)
          (λ e. let k : b < a = ltb-true b a e in
          let m : min a b ≡ b = omega arith in
          let t : b < length high = omega arith in
          rw m (and_false (in_range (get_or low b (pos 0))) (in_range (get_or high b (pos 0))) (bad_there high t)))
          (λ e. let k : a ≤ b = ltb-false b a e in
          let m : min a b ≡ a = omega arith in
          let t : a < length low = omega arith in
          rw (m, bad_there low t));
    }

-- ---- THE THEOREMS

pub code_index : (c : Coder) (s : List ℤ) (o : List ℕ) → (code_call c s o).answer.number ≡ 4 → let i = (code_call c s o).answer.index in
    (i < length s) × (all_in_range (take i s) ≡ true) × (in_range (get_or s i (pos 0)) ≡ false)
unfolding code_call not_coded coded
code_index c s o h =
    by_test (misfit (length s) (length o)) (λ e. absurd (omega (arith, rw e at h))) (λ e.
    by_test (good_coder c) (λ f.
    by_test (ltb (first_bad s) (length s)) (λ g.
    let k = ltb-true (first_bad s) (length s) g in rw (e, f, g) (k, clean_before (first_bad s) s (le_refl _), bad_there s k))
    (λ g. absurd (omega (arith, rw (e, f, g) at h))))
    (λ f. absurd (omega (arith, rw (e, f) at h))))

pub join_index : (d : Decoder) (low high s : List ℤ) → (join_call d low high s).answer.number ≡ 4
    → FirstBadAt (join_call d low high s).answer.index low high
unfolding join_call not_joined joined
join_index d low high s h =
    by_test (misfit (length s) (length low) || not (eqb (length high) (length low))) (λ e. absurd (omega (arith, rw e at h))) (λ e.
    by_test (good_decoder d) (λ f.
    by_test (ltb (first_bad_pair low high) (length low)) (λ g.
    rw (e, f, g) (pair_bad low high (matched _ _ _ e).0 (ltb-true (first_bad_pair low high) (length low) g)))
    (λ g. absurd (omega (arith, rw (e, f, g) at h))))
    (λ f. absurd (omega (arith, rw (e, f) at h))))
