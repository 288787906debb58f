-- Any calls of the two steps of decoding, in any order, can be made as the contracts allow, so the promises of the running code do not hold
-- for want of a case.
-- Assumes nothing.
use Rattle.std.specs.Prelude.{◌≡◌, refl, List, [], map}
use Rattle.g722.specs.declared.Decoder.{Decoder}
use Rattle.promises.proofs.HearCalls.{hears}
use Rattle.promises.proofs.JoinCalls.{joining}
use Rattle.promises.proofs.StepGiven.{StepInput, hear, join}
use Rattle.promises.proofs.Made.{MadeFrom}
use Rattle.promises.proofs.RunningStepsLaws.{Stepping, heard, joined, Steps, step_input, steppings}
use Rattle.promises.proofs.Said.{hear_said, join_said}
use Rattle.promises.proofs.Allowed.{allowed, all_made, lent, lent_out}

step : Decoder → StepInput → Stepping
step d (hear k) =
    heard (record {
      lifetimes = ([], ([], ([], tt)));
      given = d;
      told = k.told;
      octets = lent k.octets;
      low = lent_out k.low;
      high = lent_out k.high;
      answer = (hear_said d k.told k.octets k.low k.high).result;
      left_low = (hears d k).left.0;
      left_high = (hears d k).left.1;
    })
step d (join k) =
    joined (record {
      lifetimes = ([], ([], ([], tt)));
      given = d;
      low = lent k.low;
      high = lent k.high;
      samples = lent_out k.samples;
      answer = (join_said d k.low k.high k.samples).result;
      left = (joining.call d k).left;
    })

asked : (d : Decoder) (k : StepInput) → step_input (step d k) ≡ k
unfolding step lent lent_out
asked d (hear k) = refl
asked d (join k) = refl

may : (d : Decoder) (k : StepInput) → Steps d (step d k)
unfolding step lent lent_out
may d (hear k) = (refl, allowed (record { answer = (hear_said d k.told k.octets k.low k.high).says; left = refl }))
may d (join k) = (refl, allowed (record { answer = (join_said d k.low k.high k.samples).says; left = refl }))

-- THE THEOREM
pub can_step : (d : Decoder) (ks : List StepInput)
    → (ms : List Stepping) × MadeFrom steppings d ms × (map steppings.input ms ≡ ks)
can_step = all_made steppings (record { make = step; asked = asked; may = may })
