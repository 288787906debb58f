-- The two steps of decoding, of the running code: of whatever the contracts of `decoder::hear` and `decoder::join` allow to be answered and
-- left, in any order of calls.
-- Assumes nothing.
use Rattle.std.specs.Prelude.{◌≡◌, Result, List, ℕ, ℤ}
use Rattle.std.specs.Borrow.{Bor, MutBor}
use Rattle.laws.specs.One.{Allows, Lifetimes}
use Rattle.decoder.specs.contracts as decoder
use Rattle.g722.specs.declared.Accepted.{Accepted}
use Rattle.g722.specs.declared.Decoder.{Decoder}
use Rattle.g722.specs.declared.Refusal.{Refusal}

-- ---- what the contracts allow

-- a call that was made: the lifetimes, the record that it was handed and what was lent, what it answered, what it left
pub record Hearing : Type 0 where
  pub lifetimes : Lifetimes decoder.hear.ended
  pub given : Decoder
  pub told : ℕ
  pub octets : Bor (List ℕ)
  pub low : MutBor (List ℤ)
  pub high : MutBor (List ℤ)
  pub answer : Result (Accepted Decoder) Refusal
  pub left_low : List ℤ
  pub left_high : List ℤ

pub record Joining : Type 0 where
  pub lifetimes : Lifetimes decoder.join.ended
  pub given : Decoder
  pub low : Bor (List ℤ)
  pub high : Bor (List ℤ)
  pub samples : MutBor (List ℤ)
  pub answer : Result (Accepted Decoder) Refusal
  pub left : List ℤ

-- that it was made with a record, as the contract allows
abbrev pub Hears : Decoder → Hearing → Type 2
Hears d k =
    (k.given ≡ d)
    × Allows decoder.hear.ended (λ M 𝓤. decoder.hear.clauses) k.lifetimes
    (k.given, (k.told, (k.octets, (k.low, (k.high, tt))))) k.answer (tt, (tt, (tt, (k.left_low, (k.left_high, tt)))))

abbrev pub Joins : Decoder → Joining → Type 2
Joins d k =
    (k.given ≡ d)
    × Allows decoder.join.ended (λ M 𝓤. decoder.join.clauses) k.lifetimes (k.given, (k.low, (k.high, (k.samples, tt)))) k.answer
    (tt, (tt, (tt, (k.left, tt))))
