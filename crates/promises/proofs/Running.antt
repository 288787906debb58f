-- The calls of the running code that demands 2 and 3 are said of: whatever the contracts of `coder::reset`, `coder::code`,
-- `decoder::reset` and `decoder::decode` allow to be answered and left. They are the contracts that Rattle made of the functions'
-- own clauses (`Allows`), and none is written out here.
-- Assumes nothing.
use Rattle.std.specs.Prelude.{◌≡◌, Result, List, ℕ, ℤ}
use Rattle.std.specs.Borrow.{Bor, MutBor}
use Rattle.laws.specs.One.{Allows, Lifetimes}
use Rattle.coder.specs.contracts as coder
use Rattle.decoder.specs.contracts as decoder
use Rattle.g722.specs.Answers.{Coded, Decoded, answered}
use Rattle.g722.specs.declared.Accepted.{Accepted}
use Rattle.g722.specs.declared.Coder.{Coder}
use Rattle.g722.specs.declared.Decoder.{Decoder}
use Rattle.g722.specs.declared.Refusal.{Refusal}

abbrev pub Reset_coder : Coder → Type 2
Reset_coder c = Allows coder.reset.ended (λ M 𝓤. coder.reset.clauses) tt tt c tt

abbrev pub Reset_decoder : Decoder → Type 2
Reset_decoder d = Allows decoder.reset.ended (λ M 𝓤. decoder.reset.clauses) tt tt d tt

-- a call that was made: the lifetimes, the record that it was handed and what was lent, what it answered, what it left
pub record Coding : Type 0 where
  pub lifetimes : Lifetimes coder.code.ended
  pub given : Coder
  pub samples : Bor (List ℤ)
  pub octets : MutBor (List ℕ)
  pub answer : Result (Accepted Coder) Refusal
  pub left : List ℕ

pub record Decoding : Type 0 where
  pub lifetimes : Lifetimes decoder.decode.ended
  pub given : Decoder
  pub told : ℕ
  pub octets : Bor (List ℕ)
  pub samples : MutBor (List ℤ)
  pub answer : Result (Accepted Decoder) Refusal
  pub left : List ℤ

-- that it was made with a record, as the contract allows
abbrev pub Codes : Coder → Coding → Type 2
Codes c k =
    (k.given ≡ c)
    × Allows coder.code.ended (λ M 𝓤. coder.code.clauses) k.lifetimes (k.given, (k.samples, (k.octets, tt))) k.answer
    (tt, (tt, (k.left, tt)))

abbrev pub Decodes : Decoder → Decoding → Type 2
Decodes d k =
    (k.given ≡ d)
    × Allows decoder.decode.ended (λ M 𝓤. decoder.decode.clauses) k.lifetimes (k.given, (k.told, (k.octets, (k.samples, tt)))) k.answer
    (tt, (tt, (tt, (k.left, tt))))

-- what it answered: its number and index, its count and the next record
abbrev pub coding_answer : Coding → Coded
coding_answer k = answered k.given k.answer

abbrev pub decoding_answer : Decoding → Decoded
decoding_answer k = answered k.given k.answer
