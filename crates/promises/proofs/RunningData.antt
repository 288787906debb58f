-- Coding, data, decoding, of the running code: of whatever the contracts of `coder::code`, `cue::put` and `decoder::decode` allow.
-- Assumes nothing.
use Rattle.std.specs.Prelude.{Result, ℕ, ℤ}
use mathlib.Core.List.{List, [], ◌∷◌}
use Rattle.std.specs.Borrow.{Bor, MutBor}
use Rattle.laws.specs.One.{Allows, Lifetimes}
use Rattle.cue.specs.contracts as cue
use Rattle.g722.specs.declared.Refusal.{Refusal}
use Rattle.promises.proofs.Sequences.{DecodeInput}
use Rattle.promises.proofs.Carried.{Parcel}

-- a call of `cue::put` that was made: the lifetimes and what was lent, what it answered and left; and the memory that is lent later,
-- when its octets are decoded
pub record Putting : Type 0 where
  pub lifetimes : Lifetimes cue.put.ended
  pub mode : ℕ
  pub octets : MutBor (List ℕ)
  pub bytes : Bor (List ℕ)
  pub answer : Result (Unit {0}) Refusal
  pub left : List ℕ
  pub samples : List ℤ

abbrev pub Puts : Putting → Type 2
Puts p =
    Allows cue.put.ended (λ M 𝓤. cue.put.clauses) p.lifetimes (p.mode, (p.octets, (p.bytes, tt))) p.answer
    (tt, (p.left, (tt, tt)))

unfoldable pub AllPut : List Putting → Type 2
AllPut [] = Unit {2}
AllPut (p ∷ ps) = Puts p × AllPut ps

abbrev pub parcel : Putting → Parcel
parcel p = record { octets = p.octets.now; mode = p.mode; bytes = p.bytes.now; samples = p.samples }

-- its octets decoded in the mode of the data, as they were left
abbrev pub as_left : Putting → DecodeInput
as_left p = record { told = p.mode; octets = p.left; samples = p.samples }
