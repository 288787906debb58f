-- Any sequence of decoding calls, made in steps: each accepted call as the first step and then the second over what the first gave. The
-- steps give the same samples and the same record, so calls of both steps that decode are there to be had.
-- Assumes nothing.
use Rattle.std.specs.Prelude.{◌≡◌, true, pos, length, replicate}
use Rattle.std.proofs.Math.Path.{refl, sym, ap}
use Rattle.std.proofs.Common.{◌∙◌, eqb-true, eq-eqb}
use Rattle.std.proofs.Math.Bool.{cond}
use mathlib.Core.List.{List, [], ◌∷◌, ◌++◌, append_assoc, append-nil}
use Rattle.std.proofs.Math.Dec.{eqb}
use Rattle.std.proofs.lemmas.List.{length-replicate}
use Rattle.laws.specs.Order.{by_test}
use Rattle.g722.specs.declared.Decoder.{Decoder}
use Rattle.promises.proofs.Steps.{two_steps}
use Rattle.promises.proofs.StepsLaws.{first_accepted, in_two_steps_lem}
use Rattle.promises.proofs.Through.{Calls, done, following, through, of_accepted, lefts}
use Rattle.promises.proofs.Sequences.{DecodeInput, decoding, decoding_runs}
use Rattle.promises.proofs.HearCalls.{HearInput, hears}
use Rattle.promises.proofs.StepGiven.{StepInput, hear, join}
use Rattle.promises.proofs.StepOrder.{stepping}

-- ---- calls one after the other, cut in two

module _ (C : Calls) where
  through_append : (s : C.State) (ks js : List C.Input) → through C s (ks ++ js) ≡ through C (through C s ks) js
  unfolding through
  through_append s [] js = refl
  through_append s (k ∷ ks) js = through_append (following C s k) ks js

  of_append : {Z : Type 0} (f : C.State → C.Input → List Z) (s : C.State) (ks js : List C.Input)
      → of_accepted C f s (ks ++ js) ≡ of_accepted C f s ks ++ of_accepted C f (through C s ks) js
  unfolding through of_accepted
  of_append f s [] js = refl
  of_append {Z} f s (k ∷ ks) js =
      ap (λ (l : List Z). cond (done C s k) (f s k) [] ++ l) (of_append f (following C s k) ks js)
      ∙ sym (append_assoc (cond (done C s k) (f s k) []) _ _)

-- ---- one call

-- the first step, with memory lent for as many signals as octets, and the second
abbrev pub first_input : DecodeInput → HearInput
first_input k =
    let none = replicate (length k.octets) (pos 0) in
    record { told = k.told; octets = k.octets; low = none; high = none }

abbrev pub in_steps : Decoder → DecodeInput → List StepInput
in_steps d k =
    let signals = (hears d (first_input k)).left in
    hear (first_input k) ∷ join (record { low = signals.0; high = signals.1; samples = k.samples }) ∷ []

module _ (d : Decoder) (k : DecodeInput) (e : done decoding d k ≡ true) where
  many : length (replicate (length k.octets) (pos 0)) ≡ length k.octets
  many = length-replicate (length k.octets) (pos 0)

  both_steps : decoding.call d k ≡ two_steps d k.told k.octets (first_input k).low (first_input k).high k.samples
  both_steps = in_two_steps_lem d k.told k.octets k.samples (first_input k).low (first_input k).high many many (eqb-true _ _ e)

  record_one : through stepping d (in_steps d k) ≡ following decoding d k
  unfolding through
  record_one = ap (λ x. x.answer.next) (sym both_steps)

  samples_one : lefts stepping d (in_steps d k) ≡ (decoding.call d k).left
  unfolding of_accepted
  samples_one =
      let first = first_accepted d k.told k.octets k.samples (first_input k).low (first_input k).high many many (eqb-true _ _ e) in
      let second = ap (λ x. eqb x.answer.number 0) (sym both_steps) ∙ e in
      rw (eq-eqb _ _ first, second) (append-nil _ ∙ ap (λ x. x.left) (sym both_steps))

-- ---- THE THEOREM: the accepted calls of a sequence, each in steps, end with the same record and leave the same samples

abbrev pub all_in_steps : Decoder → List DecodeInput → List StepInput
all_in_steps = of_accepted decoding in_steps

pub steps_of_decoding : (d : Decoder) (ks : List DecodeInput)
    → (through stepping d (all_in_steps d ks) ≡ through decoding d ks) × (lefts stepping d (all_in_steps d ks) ≡ lefts decoding d ks)
unfolding through of_accepted
steps_of_decoding d [] = (refl, refl)
steps_of_decoding d (k ∷ ks) =
    let t = following decoding d k in
    let rest = all_in_steps t ks in
    let ih = steps_of_decoding t ks in
    by_test (done decoding d k)
    (λ e. rw e (
      through_append stepping d (in_steps d k) rest ∙ ap (λ c. through stepping c rest) (record_one d k e) ∙ ih.0,
      of_append stepping (λ c j. (stepping.call c j).left) d (in_steps d k) rest
          ∙ (λ i. samples_one d k e i ++ lefts stepping (record_one d k e i) rest)
          ∙ ap (λ l. (decoding.call d k).left ++ l) ih.1,
    ))
    (λ e. rw e (
      ap (λ c. through stepping c rest) (sym (decoding_runs.refused d k e)) ∙ ih.0,
      ap (λ c. lefts stepping c rest) (sym (decoding_runs.refused d k e)) ∙ ih.1,
    ))
