-- What an accepted call is: the tests that it passed, and the run that it then is.
-- Assumes nothing.
use Rattle.std.specs.Prelude.{◌≡◌, Bool, true, false, cond, ◌||◌, List, ℕ, suc, ◌≤◌, ltb, eqb, ℤ, length}
use Rattle.std.proofs.Math.Path.{refl}
use Rattle.std.proofs.Math.Bool.{not}
use Rattle.std.proofs.Common.{arith, ltb-false}
use Rattle.laws.specs.Order.{no}
use Rattle.laws.specs.Outcome.{Outcome}
use Rattle.g722.specs.Quantise.{in_force}
use Rattle.g722.specs.Records.{good_coder, good_decoder}
use Rattle.g722.specs.Coding.{first_bad, misfit, not_coded, coded, code_call}
use Rattle.g722.specs.Decoding.{not_decoded, decoded, decode_call}
use Rattle.g722.specs.Steps.{unpaired, not_heard, heard, hear_call, first_bad_pair, not_joined, joined, join_call}
use Rattle.facts.specs.Lengths.{matched}
use Rattle.g722.specs.declared.Coder.{Coder}
use Rattle.g722.specs.Answers.{Coded, Decoded}
use Rattle.g722.specs.declared.Decoder.{Decoder}

-- ---- tests that were passed

-- a call whose answer has number 0 is what follows its first test
passed : {A B : Type 0} (number : A → ℕ) (t : Bool) (n : ℕ) (x y : Outcome A B) → number x.answer ≡ suc n
    → number (cond t x y).answer ≡ 0 → (t ≡ false) × (number y.answer ≡ 0)
passed number true n x y e h = absurd (omega (arith, e, h))
passed number false n x y e h = (refl, h)

abbrev number : Decoded → ℕ
number a = a.number

holds : (t : Bool) → not t ≡ false → t ≡ true
holds true e = refl
holds false e = no e

-- ---- coding

module _ (c : Coder) (s : List ℤ) (o : List ℕ) (h : (code_call c s o).answer.number ≡ 0) where
  code_tests : (misfit (length s) (length o) ≡ false) × (not (good_coder c) ≡ false) × (ltb (first_bad s) (length s) ≡ false)
  unfolding code_call not_coded
  code_tests =
      let a = passed (λ (x : Coded). x.number) (misfit (length s) (length o)) _ _ _ refl h in
      let b = passed (λ (x : Coded). x.number) (not (good_coder c)) _ _ _ refl a.1 in
      (a.0, b.0, (passed (λ (x : Coded). x.number) (ltb (first_bad s) (length s)) _ _ _ refl b.1).0)

  pub coded_fits : misfit (length s) (length o) ≡ false
  coded_fits = code_tests.0

  pub coded_from_good : good_coder c ≡ true
  coded_from_good = holds (good_coder c) code_tests.1

  pub coded_clean : length s ≤ first_bad s
  coded_clean = ltb-false (first_bad s) (length s) code_tests.2

  pub coded_run_lem : code_call c s o ≡ coded c s
  unfolding code_call
  coded_run_lem = rw (code_tests.0, code_tests.1, code_tests.2)

-- ---- decoding, and its two steps

module _ (d : Decoder) (told : ℕ) (o : List ℕ) (s : List ℤ) (h : (decode_call d told o s).answer.number ≡ 0) where
  decode_tests : (ltb 3 told ≡ false) × (misfit (length s) (length o) ≡ false) × (not (good_decoder d) ≡ false)
  unfolding decode_call not_decoded
  decode_tests =
      let a = passed number (ltb 3 told) _ _ _ refl h in
      let b = passed number (misfit (length s) (length o)) _ _ _ refl a.1 in
      (a.0, b.0, (passed number (not (good_decoder d)) _ _ _ refl b.1).0)

  pub decoded_told : ltb 3 told ≡ false
  decoded_told = decode_tests.0

  pub decoded_fits : misfit (length s) (length o) ≡ false
  decoded_fits = decode_tests.1

  pub decoded_from_good : good_decoder d ≡ true
  decoded_from_good = holds (good_decoder d) decode_tests.2

  pub decoded_run : decode_call d told o s ≡ decoded (in_force told) d o
  unfolding decode_call
  decoded_run = rw (decode_tests.0, decode_tests.1, decode_tests.2)

module _ (d : Decoder) (told : ℕ) (o : List ℕ) (low high : List ℤ) (h : (hear_call d told o low high).answer.number ≡ 0) where
  hear_tests : (ltb 3 told ≡ false) × (unpaired (length o) (length low) (length high) ≡ false) × (not (good_decoder d) ≡ false)
  unfolding hear_call not_heard
  hear_tests =
      let a = passed number (ltb 3 told) _ _ _ refl h in
      let b = passed number (unpaired (length o) (length low) (length high)) _ _ _ refl a.1 in
      (a.0, b.0, (passed number (not (good_decoder d)) _ _ _ refl b.1).0)

  pub heard_run_lem : hear_call d told o low high ≡ heard (in_force told) d o
  unfolding hear_call
  heard_run_lem = rw (hear_tests.0, hear_tests.1, hear_tests.2)

module _ (d : Decoder) (low high s : List ℤ) (h : (join_call d low high s).answer.number ≡ 0) where
  join_tests : ((misfit (length s) (length low) || not (eqb (length high) (length low))) ≡ false) × (not (good_decoder d) ≡ false)
      × (ltb (first_bad_pair low high) (length low) ≡ false)
  unfolding join_call not_joined
  join_tests =
      let a = passed number (misfit (length s) (length low) || not (eqb (length high) (length low))) _ _ _ refl h in
      let b = passed number (not (good_decoder d)) _ _ _ refl a.1 in
      (a.0, b.0, (passed number (ltb (first_bad_pair low high) (length low)) _ _ _ refl b.1).0)

  -- as many high signals as low ones
  pub joined_paired : length high ≡ length low
  joined_paired = (matched _ _ _ join_tests.0).0

  pub joined_clean : ltb (first_bad_pair low high) (length low) ≡ false
  joined_clean = join_tests.2

  pub joined_run_lem : join_call d low high s ≡ joined d low high
  unfolding join_call
  joined_run_lem = rw (join_tests.0, join_tests.1, join_tests.2)
