-- `host::zelcandry_take` does what `cue::take` does.
use Rattle.std.proofs.Common.{refl, ap, ◌∙◌}
use Rattle.g722.specs.Cue.{data_call, take_call}
use Rattle.g722.specs.Answers.{Moved}
use Rattle.host.specs.Answer.{packed}
use Rattle.host.specs.Calls.{after_data, take_bytes}
use Rattle.host.proofs.Laws.{told_data}
use Rattle.host.proofs.zelcandry_take.Goals as goal

pub returns-in-Ok : goal.returns-in-Ok
unfolding take_bytes after_data
returns-in-Ok c =
    let did = c.in-Ok.ensures in
    record { answer = c.accepted.ensures ∙ ap (λ (m : Moved). packed m.number m.index 0) did.answer; left = did.left }

pub returns-in-Err : goal.returns-in-Err
unfolding take_call data_call take_bytes after_data
returns-in-Err c =
    let did = c.in-Err.ensures in
    record { answer = told_data c.in-Err.refusal did.answer refl c.refused.ensures; left = did.left }
