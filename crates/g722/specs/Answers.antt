-- What a call answers: its number, 0 where it is accepted; the index that number 4 gives a place; how many values were limited; and the
-- next record. A function gives the same as a `Result`: `answered` and `moved` say what that answers.
-- Assumes nothing.
use Rattle.std.specs.Prelude.{ℕ, Result, Ok, Err}
use Rattle.g722.specs.Refused.{number_of, index_of}
use Rattle.g722.specs.declared.Accepted.{Accepted}
use Rattle.g722.specs.declared.Coder.{Coder}
use Rattle.g722.specs.declared.Decoder.{Decoder}
use Rattle.g722.specs.declared.Refusal.{Refusal}

pub record Answer (R : Type 0) : Type 0 where
  pub number : ℕ
  pub index : ℕ
  pub limited : ℕ
  pub next : R

abbrev pub Coded : Type 0
Coded = Answer Coder

abbrev pub Decoded : Type 0
Decoded = Answer Decoder

-- of a call that has no record
pub record Moved : Type 0 where
  pub number : ℕ
  pub index : ℕ

-- what a result answers to a call with the record c: a refusal gives it back, and counts nothing
abbrev pub answered : {R : Type 0} → R → Result (Accepted R) Refusal → Answer R
answered c (Ok a) = record { number = 0; index = 0; limited = a.limited; next = a.next }
answered c (Err r) = record { number = number_of r; index = index_of r; limited = 0; next = c }

abbrev pub moved : Result (Unit {0}) Refusal → Moved
moved (Ok u) = record { number = 0; index = 0 }
moved (Err r) = record { number = number_of r; index = index_of r }
