-- What was answered and left by calls that were made is what the definitions give.
-- Assumes nothing.
use Rattle.std.specs.Prelude.{◌≡◌, eqb}
use Rattle.std.proofs.Math.Path.{refl, ap}
use Rattle.std.proofs.Common.{sym, ◌∙◌}
use Rattle.std.proofs.Math.Bool.{cond}
use mathlib.Core.List.{List, [], ◌∷◌, ◌++◌, map}
use Rattle.promises.proofs.Through.{Calls, Runs, through, answers, of_accepted, taken, lefts}
use Rattle.promises.proofs.ThroughLaws.{as_one_run, left_as_one_run}
use Rattle.promises.proofs.Made.{Made, MadeFrom, last_of, of_done, taken_of, lefts_of}

module _ {C : Calls} (M : Made C) where
  open C use {State, Input, Answer, Given, Item, number, next, given, after, out}
  open M use {Call, input, answer, left, Allowed, did}

  -- ---- what the definitions give for the same inputs

  pub made_record : (s : State) (ks : List Call) → MadeFrom M s ks → last_of M s ks ≡ through C s (map input ks)
  unfolding MadeFrom last_of through
  made_record s [] m = refl
  made_record s (k ∷ ks) m =
      made_record (next (answer k)) ks m.1 ∙ ap (λ (a : Answer). through C (next a) (map input ks)) (did s k m.0).answer

  pub made_answers : (s : State) (ks : List Call) → MadeFrom M s ks → map answer ks ≡ answers C s (map input ks)
  unfolding MadeFrom answers
  made_answers s [] m = refl
  made_answers s (k ∷ ks) m =
      let same = (did s k m.0).answer in
      λ i. same i ∷ (made_answers (next (answer k)) ks m.1 ∙ ap (λ (a : Answer). answers C (next a) (map input ks)) same) i

  pub made_of : {Z : Type 0} (f : Call → List Z) (g : State → Input → List Z) → ((s : State) (k : Call) → Allowed s k → f k ≡ g s (input k))
      → (s : State) (ks : List Call) → MadeFrom M s ks → of_done M f ks ≡ of_accepted C g s (map input ks)
  unfolding MadeFrom of_done of_accepted
  made_of f g h s [] m = refl
  made_of f g h s (k ∷ ks) m =
      let same = (did s k m.0).answer in
      λ i. cond (eqb (number (same i)) 0) (h s k m.0 i) []
      ++ (made_of f g h (next (answer k)) ks m.1 ∙ ap (λ (a : Answer). of_accepted C g (next a) (map input ks)) same) i

  pub made_left : (s : State) (ks : List Call) → MadeFrom M s ks → lefts_of M ks ≡ lefts C s (map input ks)
  made_left = made_of left (λ t k. (C.call t k).left) (λ s k m. (did s k m).left)

  pub made_taken : (s : State) (ks : List Call) → MadeFrom M s ks → taken_of M ks ≡ taken C s (map input ks)
  made_taken = made_of (λ k. given (input k)) (λ t k. given k) (λ t k a. refl)

  -- ---- so the calls that were made are one run too

  module _ (R : Runs C) (s : State) (ks : List Call) (m : MadeFrom M s ks) where
    pub made_as_one_run : last_of M s ks ≡ after s (taken_of M ks)
    made_as_one_run = made_record s ks m ∙ as_one_run C R s (map input ks) ∙ ap (after s) (sym (made_taken s ks m))

    pub made_left_as_one_run : lefts_of M ks ≡ out s (taken_of M ks)
    made_left_as_one_run = made_left s ks m ∙ left_as_one_run C R s (map input ks) ∙ ap (out s) (sym (made_taken s ks m))
