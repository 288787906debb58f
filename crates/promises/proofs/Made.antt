-- Calls that were made, each with the record that the one before answered and each as its contract allows: what was answered and left is
-- what the definitions give. One law for both ends.
-- Assumes nothing.
use Rattle.std.specs.Prelude.{eqb}
use Rattle.std.proofs.Math.Bool.{cond}
use mathlib.Core.List.{List, [], ◌∷◌, ◌++◌}
use base.Stored.{Coded-set, coded_ℕ}
use Rattle.laws.specs.Outcome.{Outcome, Does}
use Rattle.g722.specs.Answers.{Answer}
use Rattle.promises.proofs.Through.{Calls}

-- that something did what an outcome says is a mere fact, so it can be read off a contract
pub does_prop : {A B : Type 0} {x : Outcome A B} {r : A} {l : B} → IsSet A → IsSet B → IsProp (Does x r l)
does_prop {x} {r} {l} f g p q =
    λ i. record { answer = f r x.answer p.answer q.answer i; left = g l x.left p.left q.left i }

-- answers are equal in one way, where their records are
pub answer_set : {R : Type 0} → IsSet R → IsSet (Answer R)
answer_set f a b p q =
    λ i j. record {
      number = Coded-set coded_ℕ a.number b.number (λ k. (p k).number) (λ k. (q k).number) i j;
      index = Coded-set coded_ℕ a.index b.index (λ k. (p k).index) (λ k. (q k).index) i j;
      limited = Coded-set coded_ℕ a.limited b.limited (λ k. (p k).limited) (λ k. (q k).limited) i j;
      next = f a.next b.next (λ k. (p k).next) (λ k. (q k).next) i j;
    }

-- a call that was made at an end: what it was handed, what it answered and left, and that its contract allows it from a record,
-- which is to say that it did what the definition gives
pub record Made (C : Calls) : Type 3 where
  pub Call : Type 0
  pub input : Call → C.Input
  pub answer : Call → C.Answer
  pub left : Call → List C.Item
  pub Allowed : C.State → Call → Type 2
  pub did : (s : C.State) (k : Call) → Allowed s k → Does (C.call s (input k)) (answer k) (left k)

module _ {C : Calls} (M : Made C) where
  open C use {State, Input, Answer, Given, Item, number, next, given, after, out}
  open M use {Call, input, answer, left, Allowed, did}

  unfoldable pub MadeFrom : State → List Call → Type 2
  MadeFrom s [] = Unit {2}
  MadeFrom s (k ∷ ks) = Allowed s k × MadeFrom (next (answer k)) ks

  -- the last record that was answered, and what f gives of each call that answered 0
  unfoldable pub last_of : State → List Call → State
  last_of s [] = s
  last_of s (k ∷ ks) = last_of (next (answer k)) ks

  unfoldable pub of_done : {Z : Type 0} → (Call → List Z) → List Call → List Z
  of_done f [] = []
  of_done f (k ∷ ks) = cond (eqb (number (answer k)) 0) (f k) [] ++ of_done f ks

  -- what those calls were given, and what they left
  abbrev pub taken_of : List Call → List Given
  taken_of ks = of_done (λ k. given (input k)) ks

  abbrev pub lefts_of : List Call → List Item
  lefts_of ks = of_done left ks
