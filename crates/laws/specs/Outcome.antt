-- What a call gives back and what it leaves in lent memory. A call's meaning is one outcome for each input.
-- Assumes nothing.
use Rattle.std.specs.Prelude.{◌≡◌}
use Rattle.std.proofs.Common.{sym, ◌∙◌}

pub record Outcome (A B : Type 0) : Type 0 where
  pub answer : A
  pub left : B

-- an answer and what is left are those of the outcome: the form of every contract over lent memory
pub record Does {A B : Type 0} (x : Outcome A B) (r : A) (l : B) : Type 0 where
  pub answer : r ≡ x.answer
  pub left : l ≡ x.left

-- such a contract leaves one answer and one content
pub once : {A B : Type 0} {x : Outcome A B} {r r' : A} {l l' : B} → Does x r l → Does x r' l' → (r ≡ r') × (l ≡ l')
once p q = (p.answer ∙ sym q.answer, p.left ∙ sym q.left)

-- by way of an equal outcome
pub does : {A B : Type 0} {x y : Outcome A B} {r : A} {l : B} → x ≡ y → r ≡ y.answer → l ≡ y.left → Does x r l
does e a l = record { answer = a ∙ (λ i. (sym e i).answer); left = l ∙ (λ i. (sym e i).left) }

-- and back: what an outcome is, its equal is
pub becomes : {A B : Type 0} {x y : Outcome A B} {r : A} {l : B} → x ≡ y → Does x r l → Does y r l
becomes e h = record { answer = h.answer ∙ (λ i. (e i).answer); left = h.left ∙ (λ i. (e i).left) }
