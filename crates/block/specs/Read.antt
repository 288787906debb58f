-- What reading a block answers: its number, 0 where the block is good, and what the block says, or 0 in every other field.
-- Assumes nothing.
use Rattle.std.specs.Prelude.{ℕ, Result, Ok, Err}
use Rattle.g722.specs.Refused.{number_of, index_of}
use Rattle.g722.specs.declared.Refusal.{Refusal}
use Rattle.block.specs.declared.Header.{Header}

pub record BlockRead : Type 0 where
  pub number : ℕ
  pub index : ℕ
  pub take : ℕ
  pub block : ℕ
  pub mode : ℕ
  pub count : ℕ

-- what a result of reading answers
abbrev pub read_as : Result Header Refusal → BlockRead
read_as (Ok h) = record { number = 0; index = 0; take = h.take; block = h.block; mode = h.mode; count = h.count }
read_as (Err r) = record { number = number_of r; index = index_of r; take = 0; block = 0; mode = 0; count = 0 }
