-- Demand 3, its second half, of both steps of decoding in any order: from equal records, calls that differ only in what is not heard of an
-- octet give the same answers, the same signals and the same samples, whatever stood in the memory that was lent for them.
-- Assumes nothing.
use Rattle.std.specs.Prelude.{◌≡◌, refl, not, ◌||◌, List, ltb, eqb, ℤ, length}
use Rattle.std.proofs.Common.{ap, arith}
use Rattle.laws.specs.Order.{by_test}
use Rattle.g722.specs.Records.{good_decoder}
use Rattle.g722.specs.Coding.{misfit}
use Rattle.g722.specs.Steps.{first_bad_pair, not_joined, joined, join_call}
use Rattle.g722.specs.declared.Decoder.{Decoder}
use Rattle.promises.proofs.Through.{through, answers, of_accepted, lefts}
use Rattle.promises.proofs.HearCalls.{HearInput}
use Rattle.promises.proofs.StepGiven.{StepInput, hear, join}
use Rattle.promises.proofs.StepOrder.{stepping, step_answer, low_left, high_left, samples_left}
use Rattle.promises.proofs.Alike.{Each, answers_alike, state_alike, of_alike, lefts_alike}
use Rattle.promises.proofs.UnheardSignals.{AlikeHear}
use Rattle.promises.proofs.UnheardSignalsLaws.{same_call}

-- two calls of one step: octets that are heard alike, or the same signals, and as much memory lent
pub data AlikeStep : StepInput → StepInput → Type 0 where
  both_hear : {k j : HearInput} → AlikeHear k j → AlikeStep (hear k) (hear j)
  both_join : {low high s t : List ℤ} → length s ≡ length t
      → AlikeStep (join (record { low = low; high = high; samples = s })) (join (record { low = low; high = high; samples = t }))

-- a call of the second step
same_join : (d : Decoder) (low high s t : List ℤ) → length s ≡ length t
    → ((join_call d low high s).answer ≡ (join_call d low high t).answer)
    × ((join_call d low high s).answer.number ≡ 0 → (join_call d low high s).left ≡ (join_call d low high t).left)
unfolding join_call not_joined joined
same_join d low high s t l =
    by_test (misfit (length t) (length low) || not (eqb (length high) (length low)))
    (λ e. rw (l, e) (refl, λ h. absurd (omega (arith, h)))) (λ e.
    by_test (good_decoder d) (λ f.
    by_test (ltb (first_bad_pair low high) (length low))
    (λ g. rw (l, e, f, g) (refl, λ h. absurd (omega (arith, h))))
    (λ g. rw (l, e, f, g) (refl, λ h. refl)))
    (λ f. rw (l, e, f) (refl, λ h. absurd (omega (arith, h)))))

same_step : (d : Decoder) (k j : StepInput) → AlikeStep k j
    → (step_answer d k ≡ step_answer d j) × ((step_answer d k).number ≡ 0 → samples_left d k ≡ samples_left d j)
same_step d _ _ (both_hear {k = k} {j = j} a) = ((same_call d k j a).0, λ h. refl)
same_step d _ _ (both_join {low = low} {high = high} {s = s} {t = t} l) = same_join d low high s t l

same_low : (d : Decoder) (k j : StepInput) → AlikeStep k j → (step_answer d k).number ≡ 0 → low_left d k ≡ low_left d j
same_low d _ _ (both_hear {k = k} {j = j} a) h = ap (λ p. p.0) ((same_call d k j a).1 h)
same_low d _ _ (both_join l) h = refl

same_high : (d : Decoder) (k j : StepInput) → AlikeStep k j → (step_answer d k).number ≡ 0 → high_left d k ≡ high_left d j
same_high d _ _ (both_hear {k = k} {j = j} a) h = ap (λ p. p.1) ((same_call d k j a).1 h)
same_high d _ _ (both_join l) h = refl

-- THE THEOREMS, of any sequence of calls, also where the mode changes between calls and where some are refused
module _ (d : Decoder) {ks js : List StepInput} (a : Each AlikeStep ks js) where
  pub steps_answers_unheard : answers stepping d ks ≡ answers stepping d js
  steps_answers_unheard = answers_alike stepping AlikeStep same_step d a

  pub steps_record_unheard : through stepping d ks ≡ through stepping d js
  steps_record_unheard = state_alike stepping AlikeStep same_step d a

  pub steps_low_unheard : of_accepted stepping low_left d ks ≡ of_accepted stepping low_left d js
  steps_low_unheard = of_alike stepping AlikeStep same_step low_left same_low d a

  pub steps_high_unheard : of_accepted stepping high_left d ks ≡ of_accepted stepping high_left d js
  steps_high_unheard = of_alike stepping AlikeStep same_step high_left same_high d a

  pub steps_samples_unheard : lefts stepping d ks ≡ lefts stepping d js
  steps_samples_unheard = lefts_alike stepping AlikeStep same_step d a
