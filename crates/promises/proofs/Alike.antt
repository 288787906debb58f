-- Sequences of calls that are alike call for call: where like calls give the same answer, and leave the same if they are accepted, like
-- sequences do.
-- Assumes nothing.
use Rattle.std.specs.Prelude.{◌≡◌, cond, List, [], ◌∷◌, ◌++◌, eqb}
use Rattle.std.proofs.Math.Path.{refl, ap}
use Rattle.std.proofs.Common.{◌∙◌, eqb-true}
use Rattle.laws.specs.Order.{by_test}
use Rattle.promises.proofs.Through.{Calls, through, answers, of_accepted, lefts}

-- two lists, entry beside entry
pub data Each {A : Type 0} (R : A → A → Type 0) : List A → List A → Type 0 where
  none : Each R [] []
  more : {x y : A} {xs ys : List A} → R x y → Each R xs ys → Each R (x ∷ xs) (y ∷ ys)

module _ (C : Calls) (Like : C.Input → C.Input → Type 0)
    (same : (s : C.State) (k j : C.Input) → Like k j → ((C.call s k).answer ≡ (C.call s j).answer)
    × (C.number (C.call s k).answer ≡ 0 → (C.call s k).left ≡ (C.call s j).left)) where
  open C use {State, Input, Answer, call, number, next}

  pub answers_alike : {ks js : List Input} (s : State) → Each Like ks js → answers C s ks ≡ answers C s js
  unfolding answers
  answers_alike s none = refl
  answers_alike s (more {x = k} {y = j} {xs = ks} a rest) =
      let e = (same s k j a).0 in
      λ i. e i ∷ (ap (λ (x : Answer). answers C (next x) ks) e ∙ answers_alike _ rest) i

  pub state_alike : {ks js : List Input} (s : State) → Each Like ks js → through C s ks ≡ through C s js
  unfolding through
  state_alike s none = refl
  state_alike s (more {x = k} {y = j} {xs = ks} a rest) =
      ap (λ (x : Answer). through C (next x) ks) (same s k j a).0 ∙ state_alike _ rest

  -- whatever is the same of like calls that are accepted
  module _ {Z : Type 0} (f : State → Input → List Z)
      (alike : (s : State) (k j : Input) → Like k j → number (call s k).answer ≡ 0 → f s k ≡ f s j) where
    -- what an accepted call counts for
    counted : (s : State) (k j : Input) → Like k j
        → ◌≡◌ {A = List Z} (cond (eqb (number (call s k).answer) 0) (f s k) []) (cond (eqb (number (call s j).answer) 0) (f s j) [])
    counted s k j a =
        rw (← (same s k j a).0)
        (by_test (eqb (number (call s k).answer) 0) (λ t. rw t (alike s k j a (eqb-true _ _ t))) (λ t. rw t))

    pub of_alike : {ks js : List Input} (s : State) → Each Like ks js → of_accepted C f s ks ≡ of_accepted C f s js
    unfolding of_accepted
    of_alike s none = refl
    of_alike s (more {x = k} {y = j} {xs = ks} a rest) =
        λ i. counted s k j a i ++ (ap (λ (x : Answer). of_accepted C f (next x) ks) (same s k j a).0 ∙ of_alike _ rest) i

  pub lefts_alike : {ks js : List Input} (s : State) → Each Like ks js → lefts C s ks ≡ lefts C s js
  lefts_alike = of_alike (λ s k. (call s k).left) (λ s k j a. (same s k j a).1)
