-- What a reset of the desk answers tells its result.
use Rattle.std.proofs.Common.{◌≡◌, Result, Ok, Err, sym, ap, ◌∙◌}
use Rattle.g722.proofs.Tells.{result_of, accepted_back, refused_back}
use Rattle.g722.specs.declared.Refusal.{Refusal}
use Rattle.conference.specs.Answers.{Ticked, reset_as}
use Rattle.conference.specs.declared.Desk.{Desk}
use Rattle.conference.specs.declared.RefusedReset.{RefusedReset}

-- a refusal with this desk beside it
beside : Desk → Result Desk Refusal → Result Desk RefusedReset
beside d (Ok desk) = Ok desk
beside d (Err r) = Err (record { refusal = r; desk = d })

reset_of : Ticked → Result Desk RefusedReset
reset_of t = beside t.next (result_of t.number t.index t.next)

reset_back : (r : Result Desk RefusedReset) → reset_of (reset_as r) ≡ r
unfolding reset_of beside
reset_back (Ok desk) = ap (beside desk) (accepted_back desk)
reset_back (Err r) = ap (beside r.desk) (refused_back r.refusal r.desk)

pub reset_tells : (r s : Result Desk RefusedReset) → reset_as r ≡ reset_as s → r ≡ s
reset_tells r s e = sym (reset_back r) ∙ (ap reset_of e ∙ reset_back s)
