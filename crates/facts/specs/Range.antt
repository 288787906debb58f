-- What is limited is in range: the heard signals, and every sample that a decoder gives.
-- Assumes nothing.
use Rattle.std.specs.Prelude.{◌≡◌, refl, true, false, ◌&&◌, List, [], ◌∷◌, ◌++◌, map, ℕ, zero, suc, ◌≤◌, ◌<◌, ℤ, pos, length, take, drop}
use Rattle.std.proofs.Common.{sym, le_of_suc-le-suc, arith}
use Rattle.std.specs.Int.Signed.{le_z_yes}
use Rattle.laws.specs.Both.{both, left_true, right_true}
use Rattle.laws.specs.Clamp.{clamp_within}
use Rattle.laws.specs.Order.{by_test, no}
use Rattle.g722.specs.Arithmetic.{neg, limit}
use Rattle.g722.specs.Within.{is_within}
use Rattle.g722.specs.Records.{in_range, all_in_range}
use Rattle.g722.specs.Coding.{first_bad}
use Rattle.g722.specs.Steps.{first_bad_pair}
use Rattle.g722.specs.Decoding.{rl_of, rh_of}
use Rattle.g722.specs.declared.Band.{Band}
use Rattle.g722.specs.declared.Decoder.{Decoder}
use Rattle.facts.specs.Told.{Told, full_run, samples_run}

-- ---- lists in range

pub range_append : (xs ys : List ℤ) → all_in_range xs ≡ true → all_in_range ys ≡ true → all_in_range (xs ++ ys) ≡ true
unfolding all_in_range
range_append [] ys p q = q
range_append (x ∷ xs) ys p q =
    both (left_true (in_range x) (all_in_range xs) p) (range_append xs ys (right_true (in_range x) (all_in_range xs) p) q)

pub range_drop : (n : ℕ) (xs : List ℤ) → all_in_range xs ≡ true → all_in_range (drop n xs) ≡ true
unfolding all_in_range
range_drop zero xs p = p
range_drop (suc n) [] p = refl
range_drop (suc n) (x ∷ xs) p = range_drop n xs (right_true (in_range x) (all_in_range xs) p)

pub range_take : (n : ℕ) (xs : List ℤ) → all_in_range xs ≡ true → all_in_range (take n xs) ≡ true
unfolding all_in_range
range_take zero xs p = refl
range_take (suc n) [] p = refl
range_take (suc n) (x ∷ xs) p =
    both (left_true (in_range x) (all_in_range xs) p) (range_take n xs (right_true (in_range x) (all_in_range xs) p))

pub all_clean : (s : List ℤ) → length s ≤ first_bad s → all_in_range s ≡ true
unfolding all_in_range first_bad
all_clean [] h = refl
all_clean (x ∷ rest) h =
    by_test (in_range x)
    (λ e. let k : suc (length rest) ≤ suc (first_bad rest) = rw e at h in both e (all_clean rest (le_of_suc-le-suc k)))
    (λ e. absurd (let k : suc (length rest) ≤ zero = rw e at h in omega arith))

-- what the pass over all samples says of the first bad one
pub none_bad : (s : List ℤ) → all_in_range s ≡ true → length s ≤ first_bad s
unfolding all_in_range first_bad
none_bad [] e = omega arith
none_bad (x ∷ rest) e =
    by_test (in_range x)
    (λ t. let k : all_in_range rest ≡ true = rw t at e in rw t (let l = none_bad rest k in omega arith))
    (λ t. no (sym (rw t at e)))

pub some_bad : (s : List ℤ) → all_in_range s ≡ false → first_bad s < length s
unfolding all_in_range first_bad
some_bad [] e = no e
some_bad (x ∷ rest) e =
    by_test (in_range x)
    (λ t. let k : all_in_range rest ≡ false = rw t at e in rw t (let l = some_bad rest k in omega arith))
    (λ t. rw t (omega arith))

-- and of the first bad pair, where both have one length
pub none_bad_pair : (low high : List ℤ) → length high ≡ length low → (all_in_range low && all_in_range high) ≡ true
    → length low ≤ first_bad_pair low high
unfolding first_bad_pair
none_bad_pair low high n e =
    let l = none_bad low (left_true (all_in_range low) (all_in_range high) e) in
    let h = none_bad high (right_true (all_in_range low) (all_in_range high) e) in
    omega arith

pub some_bad_pair : (low high : List ℤ) → length high ≡ length low → (all_in_range low && all_in_range high) ≡ false
    → first_bad_pair low high < length low
unfolding first_bad_pair
some_bad_pair low high n e =
    by_test (all_in_range low)
    (λ t. let h = some_bad high (rw t at e) in omega arith)
    (λ t. let l = some_bad low t in omega arith)

-- ---- what is limited

pub limit_in_range : (z : ℤ) → in_range (limit z) ≡ true
unfolding in_range limit
limit_in_range z = let d = clamp_within (neg 16384) (pos 16383) z (le_z_yes tt) in is_within d.0 d.1

pub limits_in_range : (zs : List ℤ) → all_in_range (map limit zs) ≡ true
unfolding all_in_range
limits_in_range [] = refl
limits_in_range (z ∷ zs) = both (limit_in_range z) (limits_in_range zs)

-- RL and RH
pub rl_in_range : (mode : ℕ) (s : Band) (o : ℕ) → in_range (rl_of mode s o) ≡ true
unfolding rl_of
rl_in_range mode s o = limit_in_range _

pub rh_in_range : (s : Band) (o : ℕ) → in_range (rh_of s o) ≡ true
unfolding rh_of
rh_in_range s o = limit_in_range _

-- XOUT1 and XOUT2, over a run
pub run_in_range : (d : Decoder) (ts : List Told) → all_in_range (samples_run d ts) ≡ true
unfolding samples_run
run_in_range d ts = limits_in_range (full_run d ts)
