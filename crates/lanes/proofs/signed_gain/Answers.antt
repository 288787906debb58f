-- `lanes::signed_gain` meets its contract, case by case.
use Rattle.std.proofs.Common.{rules}
use Rattle.idle.specs.Plain.{signed_gain}
use Rattle.lanes.proofs.signed_gain.Goals as goal

pub returns-then-d-lt0 : goal.returns-then-d-lt0
unfolding signed_gain
returns-then-d-lt0 c = search rules

pub returns-then-d-gt0 : goal.returns-then-d-gt0
unfolding signed_gain
returns-then-d-gt0 c = search rules

pub returns-else-d-gt0 : goal.returns-else-d-gt0
unfolding signed_gain
returns-else-d-gt0 c = search rules
