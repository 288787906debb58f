-- What playing a block answers: its number, 0 where it was played, and what is said of it, or 0 in every other field.
-- Assumes nothing.
use Rattle.std.specs.Prelude.{ℕ, ℤ, pos, Result, Ok, Err}
use Rattle.g722.specs.Refused.{number_of, index_of}
use Rattle.g722.specs.declared.Refusal.{Refusal}
use Rattle.playing.specs.declared.PlayedBlock.{PlayedBlock}
use Rattle.playing.specs.declared.Player.{Player}

pub record Played : Type 0 where
  pub number : ℕ
  pub index : ℕ
  pub next : Player
  pub take : ℕ
  pub block : ℕ
  pub mode : ℕ
  pub count : ℕ
  pub first : ℤ
  pub last : ℤ
  pub limited : ℕ

-- what a result of playing answers to a player with the record p: a refusal gives it back
abbrev pub played_as : Player → Result PlayedBlock Refusal → Played
played_as p (Ok b) =
    record {
      number = 0;
      index = 0;
      next = b.next;
      take = b.header.take;
      block = b.header.block;
      mode = b.header.mode;
      count = b.header.count;
      first = b.first;
      last = b.last;
      limited = b.limited;
    }
played_as p (Err r) =
    record {
      number = number_of r;
      index = index_of r;
      next = p;
      take = 0;
      block = 0;
      mode = 0;
      count = 0;
      first = pos 0;
      last = pos 0;
      limited = 0;
    }
