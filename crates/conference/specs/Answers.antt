-- What a tick and a reset of the desk answer.
-- Assumes nothing.
use Rattle.std.specs.Prelude.{Result, Ok, Err}
use Rattle.g722.specs.Refused.{number_of, index_of}
use Rattle.g722.specs.Answers.{Answer}
use Rattle.conference.specs.declared.Desk.{Desk}
use Rattle.conference.specs.declared.RefusedReset.{RefusedReset}

abbrev pub Ticked : Type 0
Ticked = Answer Desk

-- what a result of a reset answers: a refusal has its desk beside it
abbrev pub reset_as : Result Desk RefusedReset → Ticked
reset_as (Ok desk) = record { number = 0; index = 0; limited = 0; next = desk }
reset_as (Err r) = record { number = number_of r.refusal; index = index_of r.refusal; limited = 0; next = r.desk }
