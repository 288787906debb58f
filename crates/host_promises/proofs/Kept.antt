-- A host that keeps the record in a form of its own. Where each of its calls does to the form what a call does to the record, any
-- sequence of its calls does what the same sequence does to the record, refused ones among them. One law for both ends.
-- Assumes nothing.
use Rattle.std.specs.Prelude.{◌≡◌, ℕ, eqb}
use Rattle.std.proofs.Math.Path.{refl, ap}
use Rattle.std.proofs.Common.{sym, ◌∙◌}
use Rattle.std.proofs.Math.Bool.{cond}
use mathlib.Core.List.{List, [], ◌∷◌, ◌++◌, map}
use Rattle.laws.specs.Outcome.{Outcome}
use Rattle.promises.proofs.Through.{Calls, Runs, following, through, answers, of_accepted, accepted, taken, lefts}
use Rattle.promises.proofs.ThroughLaws.{as_one_run, left_as_one_run}

-- the host's calls beside those of C: what it keeps of a record, and what it reads there; which records it can keep
pub record Keeps (C : Calls) : Type 1 where
  pub Kept : Type 0
  pub Answer : Type 0
  pub call : Kept → C.Input → Outcome Answer (List C.Item)
  pub number : Answer → ℕ
  pub next : Answer → Kept
  pub form : C.State → Kept
  pub read : Kept → C.State
  pub Fits : C.State → Type 0
  pub same_number : (s : C.State) (k : C.Input) → Fits s → number (call (form s) k).answer ≡ C.number (C.call s k).answer
  pub same_left : (s : C.State) (k : C.Input) → Fits s → (call (form s) k).left ≡ (C.call s k).left
  pub same_next : (s : C.State) (k : C.Input) → Fits s → next (call (form s) k).answer ≡ form (following C s k)
  pub stays : (s : C.State) (k : C.Input) → Fits s → Fits (following C s k)

-- as calls of their own, which run as the record does
abbrev pub kept : {C : Calls} → Keeps C → Calls
kept {C} K =
    record {
      State = K.Kept;
      Input = C.Input;
      Answer = K.Answer;
      Given = C.Given;
      Item = C.Item;
      call = K.call;
      number = K.number;
      next = K.next;
      given = C.given;
      after = λ s g. K.form (C.after (K.read s) g);
      out = λ s g. C.out (K.read s) g;
    }

module _ {C : Calls} (K : Keeps C) where
  open C use {State, Input}
  open K use {Kept, form, Fits, same_number, same_left, same_next, stays}

  -- THE LAW: what is kept in the end is the form of the record in the end ..
  pub kept_through : (s : State) (ks : List Input) → Fits s → through (kept K) (form s) ks ≡ form (through C s ks)
  unfolding through
  kept_through s [] f = refl
  kept_through s (k ∷ ks) f =
      ap (λ (t : Kept). through (kept K) t ks) (same_next s k f) ∙ kept_through (following C s k) ks (stays s k f)

  -- .. which can be kept again ..
  pub through_fits : (s : State) (ks : List Input) → Fits s → Fits (through C s ks)
  unfolding through
  through_fits s [] f = f
  through_fits s (k ∷ ks) f = through_fits (following C s k) ks (stays s k f)

  -- .. and what is the same of each call is the same of the accepted ones
  pub kept_of : {Z : Type 0} (g : Kept → Input → List Z) (h : State → Input → List Z)
      → ((s : State) (k : Input) → Fits s → g (form s) k ≡ h s k)
      → (s : State) (ks : List Input) → Fits s → of_accepted (kept K) g (form s) ks ≡ of_accepted C h s ks
  unfolding of_accepted
  kept_of g h same s [] f = refl
  kept_of g h same s (k ∷ ks) f =
      λ i. cond (eqb (same_number s k f i) 0) (same s k f i) []
      ++ (ap (λ (t : Kept). of_accepted (kept K) g t ks) (same_next s k f) ∙ kept_of g h same (following C s k) ks (stays s k f)) i

  -- so the same calls are accepted, are given the same, and leave the same
  module _ (s : State) (ks : List Input) (f : Fits s) where
    pub kept_accepted : accepted (kept K) (form s) ks ≡ accepted C s ks
    kept_accepted = kept_of (λ t k. k ∷ []) (λ t k. k ∷ []) (λ t k g. refl) s ks f

    pub kept_taken : taken (kept K) (form s) ks ≡ taken C s ks
    kept_taken = kept_of (λ t k. C.given k) (λ t k. C.given k) (λ t k g. refl) s ks f

    pub kept_lefts : lefts (kept K) (form s) ks ≡ lefts C s ks
    kept_lefts = kept_of (λ t k. (K.call t k).left) (λ t k. (C.call t k).left) same_left s ks f

  -- and each call has the same number
  pub kept_numbers : (s : State) (ks : List Input) → Fits s
      → map K.number (answers (kept K) (form s) ks) ≡ map C.number (answers C s ks)
  unfolding answers
  kept_numbers s [] f = refl
  kept_numbers s (k ∷ ks) f =
      λ i. same_number s k f i
      ∷ (ap (λ (t : Kept). map K.number (answers (kept K) t ks)) (same_next s k f)
      ∙ kept_numbers (following C s k) ks (stays s k f)) i

  -- ---- so they are one run too

  module _ (R : Runs C) (s : State) (ks : List Input) (f : Fits s) where
    pub kept_as_one_run : through (kept K) (form s) ks ≡ form (C.after s (taken (kept K) (form s) ks))
    kept_as_one_run = kept_through s ks f ∙ ap form (as_one_run C R s ks ∙ ap (C.after s) (sym (kept_taken s ks f)))

    pub kept_left_as_one_run : lefts (kept K) (form s) ks ≡ C.out s (taken (kept K) (form s) ks)
    kept_left_as_one_run = kept_lefts s ks f ∙ left_as_one_run C R s ks ∙ ap (C.out s) (sym (kept_taken s ks f))
