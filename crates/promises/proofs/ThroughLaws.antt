-- Calls one after the other, refused ones among them: one law for both ends.
-- Assumes nothing.
use Rattle.std.specs.Prelude.{◌≡◌, true}
use Rattle.std.proofs.Math.Path.{refl, sym, ap}
use Rattle.std.proofs.Common.{◌∙◌}
use mathlib.Core.List.{List, [], ◌∷◌, ◌++◌}
use Rattle.laws.specs.Order.{by_test}
use Rattle.promises.proofs.Through.{Calls, done, following, through, of_accepted, accepted, taken, lefts, Runs}

module _ (C : Calls) (R : Runs C) where
  open C use {State, Input, Given, call, given, after, out}
  open R use {after_none, out_none, refused, ran, left, after_join, out_join}

  -- THE LAW: any sequence of calls is one run over what its accepted calls were given, in the record that it ends with ..
  pub as_one_run : (s : State) (ks : List Input) → through C s ks ≡ after s (taken C s ks)
  unfolding through of_accepted
  as_one_run s [] = sym (after_none s)
  as_one_run s (k ∷ ks) =
      as_one_run (following C s k) ks
      ∙ by_test (done C s k)
      (λ e. rw e (ap (λ t. after t (taken C (following C s k) ks)) (ran s k e) ∙ sym (after_join s k e (taken C (following C s k) ks))))
      (λ e. rw e (ap (λ t. after t (taken C (following C s k) ks)) (refused s k e)))

  -- .. in whatever is one run of each call and may be cut ..
  pub of_as_one_run : {Z : Type 0} (f : State → Input → List Z) (run : State → List Given → List Z) → ((s : State) → run s [] ≡ [])
      → ((s : State) (k : Input) → done C s k ≡ true → f s k ≡ run s (given k))
      → ((s : State) (k : Input) → done C s k ≡ true → (rest : List Given)
      → run s (given k ++ rest) ≡ run s (given k) ++ run (after s (given k)) rest)
      → (s : State) (ks : List Input) → of_accepted C f s ks ≡ run s (taken C s ks)
  unfolding of_accepted
  of_as_one_run f run none one cut s [] = sym (none s)
  of_as_one_run f run none one cut s (k ∷ ks) =
      let t = following C s k in
      let ih = of_as_one_run f run none one cut t ks in
      by_test (done C s k)
      (λ e. rw e (ap (λ l. f s k ++ l) ih ∙ (λ i. one s k e i ++ run (ran s k e i) (taken C t ks)) ∙ sym (cut s k e (taken C t ks))))
      (λ e. rw e (ih ∙ ap (λ u. run u (taken C t ks)) (refused s k e)))

  -- .. and so in what they left
  pub left_as_one_run : (s : State) (ks : List Input) → lefts C s ks ≡ out s (taken C s ks)
  left_as_one_run = of_as_one_run (λ t k. (call t k).left) out out_none left out_join

  -- Without its refused calls a sequence gives the same of every accepted one: each is accepted again, is given and leaves the same ..
  pub same_of_accepted : {Z : Type 0} (f : State → Input → List Z) (s : State) (ks : List Input)
      → of_accepted C f s (accepted C s ks) ≡ of_accepted C f s ks
  unfolding of_accepted
  same_of_accepted f s [] = refl
  same_of_accepted f s (k ∷ ks) =
      let ih = same_of_accepted f (following C s k) ks in
      by_test (done C s k)
      (λ e. rw (e, e) (ap (λ l. f s k ++ l) ih))
      (λ e. rw e (ap (λ t. of_accepted C f t (accepted C (following C s k) ks)) (sym (refused s k e)) ∙ ih))

  -- .. and ends with the same record
  pub same_without_refused : (s : State) (ks : List Input) → through C s (accepted C s ks) ≡ through C s ks
  same_without_refused s ks =
      as_one_run s (accepted C s ks)
      ∙ ap (after s) (same_of_accepted (λ t k. given k) s ks)
      ∙ sym (as_one_run s ks)
