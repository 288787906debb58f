-- The public functions of `words`, each by its own contract: it asks nothing, and leaves one answer.
use mathlib.Core.Path.{refl}
use Rattle.laws.specs.One.{LeavesOne, equation}
use Rattle.words.proofs as words
use Rattle.words.specs.contracts as contracts

pub to_six : LeavesOne contracts.to_six.ended (λ M 𝓤. contracts.to_six.clauses) words.to_six.Symbol.name words.to_six.Symbol.code
to_six = equation (λ κs a l m. refl) (λ M. words.to_six.Met.met)

pub from_four : LeavesOne contracts.from_four.ended (λ M 𝓤. contracts.from_four.clauses) words.from_four.Symbol.name words.from_four.Symbol.code
from_four = equation (λ κs a l m. refl) (λ M. words.from_four.Met.met)

pub from_six : LeavesOne contracts.from_six.ended (λ M 𝓤. contracts.from_six.clauses) words.from_six.Symbol.name words.from_six.Symbol.code
from_six = equation (λ κs a l m. refl) (λ M. words.from_six.Met.met)

pub from_five : LeavesOne contracts.from_five.ended (λ M 𝓤. contracts.from_five.clauses) words.from_five.Symbol.name words.from_five.Symbol.code
from_five = equation (λ κs a l m. refl) (λ M. words.from_five.Met.met)

pub to_two : LeavesOne contracts.to_two.ended (λ M 𝓤. contracts.to_two.clauses) words.to_two.Symbol.name words.to_two.Symbol.code
to_two = equation (λ κs a l m. refl) (λ M. words.to_two.Met.met)

pub from_two : LeavesOne contracts.from_two.ended (λ M 𝓤. contracts.from_two.clauses) words.from_two.Symbol.name words.from_two.Symbol.code
from_two = equation (λ κs a l m. refl) (λ M. words.from_two.Met.met)
