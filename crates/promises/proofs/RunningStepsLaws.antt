-- The two steps of decoding, of the running code, in any order of calls.
-- Assumes nothing.
use Rattle.std.specs.Prelude.{◌≡◌, refl, List, [], map, ℤ}
use Rattle.std.proofs.Common.{sym, ap, ◌∙◌}
use base.Stored.{Coded-set, coded_ℤ, coded_list, coded×}
use Rattle.laws.specs.One.{claims}
use Rattle.laws.specs.Outcome.{Does, does}
use Rattle.g722.specs.Steps.{rhs_of, heard_after, hear_call, joined_of, joined_after, join_call}
use Rattle.g722.specs.declared.Decoder.{Decoder}
use Rattle.g722.specs.Answers.{Decoded, answered}
use Rattle.facts.specs.Told.{Told, decoder_run, samples_run}
use Rattle.promises.proofs.StepRuns.{received, rls_run, Heard, lows, highs, decodes}
use Rattle.promises.proofs.HearCalls.{HearInput}
use Rattle.promises.proofs.StepGiven.{StepInput, hear, join, octets_in, pairs_in}
use Rattle.promises.proofs.StepOrder.{stepping, stepping_runs, low_left, high_left, steps_low, steps_high}
use Rattle.promises.proofs.Made.{does_prop, answer_set, Made, MadeFrom, last_of, of_done, taken_of, lefts_of}
use Rattle.promises.proofs.MadeLaws.{made_of, made_taken, made_as_one_run, made_left_as_one_run}
use Rattle.promises.proofs.RunningLaws.{decoders}
use Rattle.promises.proofs.RunningSteps.{Hearing, Joining, Hears, Joins}

-- ---- and that it is what the definitions give

pub did_hear : (d : Decoder) (k : Hearing) → Hears d k
    → Does (hear_call d k.told k.octets.now k.low.now k.high.now) (answered k.given k.answer) (k.left_low, k.left_high)
did_hear d k p =
    let signals = Coded-set (coded× (coded_list coded_ℤ) (coded_list coded_ℤ)) in
    let did = claims (does_prop (answer_set decoders) signals) p.1 (λ e. e) in
    does (ap (λ (s : Decoder). hear_call s k.told k.octets.now k.low.now k.high.now) (sym p.0)) did.answer did.left

pub did_join : (d : Decoder) (k : Joining) → Joins d k
    → Does (join_call d k.low.now k.high.now k.samples.now) (answered k.given k.answer) k.left
did_join d k p =
    let did = claims (does_prop (answer_set decoders) (Coded-set (coded_list coded_ℤ))) p.1 (λ e. e) in
    does (ap (λ (s : Decoder). join_call s k.low.now k.high.now k.samples.now) (sym p.0)) did.answer did.left

-- ---- calls of both, in any order

pub data Stepping : Type 0 where
  heard : Hearing → Stepping
  joined : Joining → Stepping

abbrev pub hear_input : Hearing → HearInput
hear_input k = record { told = k.told; octets = k.octets.now; low = k.low.now; high = k.high.now }

abbrev pub step_input : Stepping → StepInput
step_input (heard k) = hear (hear_input k)
step_input (joined k) = join (record { low = k.low.now; high = k.high.now; samples = k.samples.now })

abbrev pub step_answered : Stepping → Decoded
step_answered (heard k) = answered k.given k.answer
step_answered (joined k) = answered k.given k.answer

-- what a call left of low signals, of high ones and of samples
abbrev pub lows_left : Stepping → List ℤ
lows_left (heard k) = k.left_low
lows_left (joined k) = []

abbrev pub highs_left : Stepping → List ℤ
highs_left (heard k) = k.left_high
highs_left (joined k) = []

abbrev pub samples_left : Stepping → List ℤ
samples_left (heard k) = []
samples_left (joined k) = k.left

abbrev pub Steps : Decoder → Stepping → Type 2
Steps d (heard k) = Hears d k
Steps d (joined k) = Joins d k

pub did_step : (d : Decoder) (k : Stepping) → Steps d k → Does (stepping.call d (step_input k)) (step_answered k) (samples_left k)
did_step d (heard k) p = record { answer = (did_hear d k p).answer; left = refl }
did_step d (joined k) p = did_join d k p

pub did_low : (d : Decoder) (k : Stepping) → Steps d k → lows_left k ≡ low_left d (step_input k)
did_low d (heard k) p = ap (λ l. l.0) (did_hear d k p).left
did_low d (joined k) p = refl

pub did_high : (d : Decoder) (k : Stepping) → Steps d k → highs_left k ≡ high_left d (step_input k)
did_high d (heard k) p = ap (λ l. l.1) (did_hear d k p).left
did_high d (joined k) p = refl

abbrev pub steppings : Made stepping
steppings =
    record { Call = Stepping; input = step_input; answer = step_answered; left = samples_left; Allowed = Steps; did = did_step }

-- the octets that accepted calls were given, with their modes, and the pairs of signals
abbrev pub octets_came : List Stepping → List Told
octets_came ks = octets_in (taken_of steppings ks)

abbrev pub pairs_came : List Stepping → List Heard
pairs_came ks = pairs_in (taken_of steppings ks)

-- ---- THE THEOREMS of demand 2: records, signals and samples of any calls that were made

module _ (d : Decoder) (ks : List Stepping) (m : MadeFrom steppings d ks) where
  pub running_steps_record : last_of steppings d ks
      ≡ joined_after (heard_after d (received (octets_came ks))) (lows (pairs_came ks)) (highs (pairs_came ks))
  running_steps_record = made_as_one_run steppings stepping_runs d ks m

  pub running_low : of_done steppings lows_left ks ≡ rls_run d.low (octets_came ks)
  running_low =
      made_of steppings lows_left low_left did_low d ks m
      ∙ steps_low d (map step_input ks)
      ∙ ap (λ gs. rls_run d.low (octets_in gs)) (sym (made_taken steppings d ks m))

  pub running_high : of_done steppings highs_left ks ≡ rhs_of d.high (received (octets_came ks))
  running_high =
      made_of steppings highs_left high_left did_high d ks m
      ∙ steps_high d (map step_input ks)
      ∙ ap (λ gs. rhs_of d.high (received (octets_in gs))) (sym (made_taken steppings d ks m))

  pub running_joined : lefts_of steppings ks ≡ joined_of d.past (lows (pairs_came ks)) (highs (pairs_came ks))
  running_joined = made_left_as_one_run steppings stepping_runs d ks m

  -- and where what was joined is what was heard, in order, they decode
  pub running_steps_decode : lows (pairs_came ks) ≡ of_done steppings lows_left ks → highs (pairs_came ks) ≡ of_done steppings highs_left ks
      → (last_of steppings d ks ≡ decoder_run d (octets_came ks)) × (lefts_of steppings ks ≡ samples_run d (octets_came ks))
  running_steps_decode l h =
      let same = decodes d (octets_came ks) (lows (pairs_came ks)) (highs (pairs_came ks)) (l ∙ running_low) (h ∙ running_high) in
      (running_steps_record ∙ same.0, running_joined ∙ same.1)
