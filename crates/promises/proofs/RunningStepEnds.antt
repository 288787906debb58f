-- Demand 3 of the running code over the two steps of decoding: of whatever the contracts of `coder::reset`, `coder::code`,
-- `decoder::reset`, `decoder::hear` and `decoder::join` allow to be answered and left, in any order of calls of the two steps.
-- Assumes nothing.
use Rattle.std.specs.Prelude.{◌≡◌, List, map, ℕ, ◌*◌, length, take}
use Rattle.std.proofs.Common.{sym, ◌∙◌}
use Rattle.g722.specs.Coding.{coder_after}
use Rattle.g722.specs.Steps.{joined_after}
use Rattle.g722.specs.declared.Coder.{Coder}
use Rattle.g722.specs.declared.Decoder.{Decoder}
use Rattle.facts.specs.Upper.{upper_six}
use Rattle.promises.proofs.StepRuns.{received}
use Rattle.promises.proofs.SameBands.{SameBands}
use Rattle.promises.proofs.Ends.{heard_behind, heard_at_end, reset_same}
use Rattle.promises.proofs.StepOrder.{low_left, high_left}
use Rattle.promises.proofs.Alike.{Each}
use Rattle.promises.proofs.UnheardSteps.{AlikeStep, steps_answers_unheard, steps_record_unheard}
use Rattle.promises.proofs.UnheardSteps.{steps_low_unheard, steps_high_unheard, steps_samples_unheard}
use Rattle.promises.proofs.Made.{MadeFrom, last_of, of_done, lefts_of}
use Rattle.promises.proofs.MadeLaws.{made_record, made_answers, made_of, made_left}
use Rattle.promises.proofs.Running.{Reset_coder, Reset_decoder, Coding}
use Rattle.promises.proofs.RunningLaws.{did_reset_coder, did_reset_decoder, codings, sent, spoken, running_octets, running_coder}
use Rattle.promises.proofs.RunningStepsLaws.{Stepping, step_input, step_answered, lows_left, highs_left, did_low, did_high, steppings}
use Rattle.promises.proofs.RunningStepsLaws.{octets_came, running_steps_record}

-- ---- THE THEOREMS, of its first half: the record that the steps' calls answered

module _ (c : Coder) (d : Decoder) (p : Reset_coder c) (q : Reset_decoder d)
    (ks : List Coding) (ss : List Stepping) (m : MadeFrom codings c ks) (w : MadeFrom steppings d ss) where
  same_reset : SameBands c d
  same_reset = rw (did_reset_coder c p, did_reset_decoder d q) reset_same

  abbrev came : List ℕ
  came = received (octets_came ss)

  -- while they are behind what was sent
  pub running_steps_behind : take (length came) (map upper_six (sent ks)) ≡ take (length came) (map upper_six came)
      → SameBands (coder_after c (take (2 * length came) (spoken ks))) (last_of steppings d ss)
  unfolding joined_after
  running_steps_behind e =
      let b = heard_behind c d (spoken ks) came same_reset (rw (running_octets c ks m) at e) in
      rw (running_steps_record d ss w) (record { low = b.low; high = b.high })

  -- where all that was sent has come
  pub running_steps_equal : map upper_six (sent ks) ≡ map upper_six came → SameBands (last_of codings c ks) (last_of steppings d ss)
  unfolding joined_after
  running_steps_equal e =
      let b = heard_at_end c d (spoken ks) came same_reset (rw (running_octets c ks m) at e) in
      rw (running_coder c ks m, running_steps_record d ss w) (record { low = b.low; high = b.high })

-- ---- THE THEOREMS, of its second half: from equal records, calls that differ in cue bits alone

module _ (d : Decoder) (ks js : List Stepping) (m : MadeFrom steppings d ks) (w : MadeFrom steppings d js)
    (a : Each AlikeStep (map step_input ks) (map step_input js)) where
  -- the same answers and the same record
  pub running_steps_unheard : (map step_answered ks ≡ map step_answered js) × (last_of steppings d ks ≡ last_of steppings d js)
  running_steps_unheard = (
    made_answers steppings d ks m ∙ steps_answers_unheard d a ∙ sym (made_answers steppings d js w),
    made_record steppings d ks m ∙ steps_record_unheard d a ∙ sym (made_record steppings d js w),
  )

  -- the same low signals, the same high ones, the same samples
  pub running_signals_unheard : (of_done steppings lows_left ks ≡ of_done steppings lows_left js)
      × (of_done steppings highs_left ks ≡ of_done steppings highs_left js) × (lefts_of steppings ks ≡ lefts_of steppings js)
  running_signals_unheard = (
    made_of steppings lows_left low_left did_low d ks m
        ∙ steps_low_unheard d a
        ∙ sym (made_of steppings lows_left low_left did_low d js w),
    made_of steppings highs_left high_left did_high d ks m
        ∙ steps_high_unheard d a
        ∙ sym (made_of steppings highs_left high_left did_high d js w),
    made_left steppings d ks m ∙ steps_samples_unheard d a ∙ sym (made_left steppings d js w),
  )
