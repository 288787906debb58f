-- An answer tells its result: no two results answer the same. So a contract that says what is answered leaves one result.
-- Assumes nothing.
use Rattle.std.specs.Prelude.{◌≡◌, refl, ℕ, zero, suc, Result, Ok, Err}
use Rattle.std.proofs.Common.{sym, ap, arith, ◌∙◌}
use Rattle.g722.specs.Refused.{number_of, index_of}
use Rattle.g722.specs.Answers.{answered, moved}
use Rattle.g722.specs.declared.Accepted.{Accepted}
use Rattle.g722.specs.declared.Refusal.{Refusal}
use Rattle.g722.specs.declared.Refusal.TheVariants.{Mode, Record, Length, Sample, DataChannel, BlockSize, Check, Contents, Ports}

-- the refusal of a number and an index
refusal_of : ℕ → ℕ → Refusal
refusal_of (suc zero) i = Mode
refusal_of (suc (suc zero)) i = Record
refusal_of (suc (suc (suc zero))) i = Length
refusal_of (suc (suc (suc (suc zero)))) i = Sample i
refusal_of (suc (suc (suc (suc (suc zero))))) i = DataChannel
refusal_of (suc (suc (suc (suc (suc (suc zero)))))) i = BlockSize
refusal_of (suc (suc (suc (suc (suc (suc (suc zero))))))) i = Check
refusal_of (suc (suc (suc (suc (suc (suc (suc (suc zero)))))))) i = Contents
refusal_of n i = Ports

-- what was accepted, or why it was not
pub result_of : {A : Type 0} → ℕ → ℕ → A → Result A Refusal
result_of zero i a = Ok a
result_of (suc n) i a = Err (refusal_of (suc n) i)

pub accepted_back : {A : Type 0} (a : A) → result_of 0 0 a ≡ Ok a
unfolding result_of
accepted_back a = refl

pub refused_back : {A : Type 0} (r : Refusal) (a : A) → result_of (number_of r) (index_of r) a ≡ Err r
unfolding result_of refusal_of
refused_back Mode a = refl
refused_back Record a = refl
refused_back Length a = refl
refused_back (Sample i) a = refl
refused_back DataChannel a = refl
refused_back BlockSize a = refl
refused_back Check a = refl
refused_back Contents a = refl
refused_back Ports a = refl

-- ---- the answers of a call with a record, and without one

answered_back : {R : Type 0} (c : R) (r : Result (Accepted R) Refusal)
    → result_of (answered c r).number (answered c r).index (record { limited = (answered c r).limited; next = (answered c r).next }) ≡ r
answered_back c (Ok a) = accepted_back a
answered_back c (Err r) = refused_back r (record { limited = 0; next = c })

pub answered_tells : {R : Type 0} (c : R) (r s : Result (Accepted R) Refusal) → answered c r ≡ answered c s → r ≡ s
answered_tells c r s e =
    sym (answered_back c r)
    ∙ (ap (λ a. result_of a.number a.index (record { limited = a.limited; next = a.next })) e ∙ answered_back c s)

moved_back : (r : Result (Unit {0}) Refusal) → result_of (moved r).number (moved r).index tt ≡ r
moved_back (Ok u) = accepted_back u
moved_back (Err r) = refused_back r tt

pub moved_tells : (r s : Result (Unit {0}) Refusal) → moved r ≡ moved s → r ≡ s
moved_tells r s e = sym (moved_back r) ∙ (ap (λ m. result_of m.number m.index tt) e ∙ moved_back s)

-- ---- a refusal has a number other than 0

pub refused_number : (r : Refusal) → number_of r ≡ 0 → ⊥
refused_number Mode e = omega arith
refused_number Record e = omega arith
refused_number Length e = omega arith
refused_number (Sample i) e = omega arith
refused_number DataChannel e = omega arith
refused_number BlockSize e = omega arith
refused_number Check e = omega arith
refused_number Contents e = omega arith
refused_number Ports e = omega arith
