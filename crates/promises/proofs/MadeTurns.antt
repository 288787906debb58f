-- Calls and resets that were made, each as its contract allows: the calls since the last reset were made from the record that it answered,
-- and the last record of all is the last of theirs. One law for every end.
-- Assumes nothing.
use Rattle.std.specs.Prelude.{◌≡◌}
use Rattle.std.proofs.Math.Path.{refl}
use mathlib.Core.List.{List, [], ◌∷◌, ◌++◌}
use Rattle.promises.proofs.Through.{Calls}
use Rattle.promises.proofs.Made.{Made, MadeFrom, last_of}
use Rattle.promises.proofs.Turns.{Turn, reset, more, since_after, since}

module _ {ℓ} {C : Calls} (M : Made C) (Reset : C.State → Type ℓ) where
  open C use {State, next}
  open M use {Call, answer, Allowed}

  -- from one record to another by turns: a reset answers any record that it may, and each call is made with the record before it
  pub data MadeTurns : State → List (Turn Call) → State → Type (2 ⊔ ℓ) where
    none : {s : State} → MadeTurns s [] s
    afresh : {s t u : State} {ts : List (Turn Call)} → Reset t → MadeTurns t ts u → MadeTurns s (reset ∷ ts) u
    called : {s u : State} {k : Call} {ts : List (Turn Call)} → Allowed s k → MadeTurns (next (answer k)) ts u
        → MadeTurns s (more k ∷ ts) u

  -- calls that were made from what a reset answered, and their last record
  pub record FromReset (ks : List Call) (u : State) : Type (2 ⊔ ℓ) where
    pub start : State
    pub was_reset : Reset start
    pub made : MadeFrom M start ks
    pub last : last_of M start ks ≡ u

  made_join : (s : State) (ks : List Call) (k : Call) → MadeFrom M s ks → Allowed (last_of M s ks) k → MadeFrom M s (ks ++ (k ∷ []))
  unfolding MadeFrom last_of
  made_join s [] k m a = (a, tt)
  made_join s (j ∷ ks) k m a = (m.0, made_join (next (answer j)) ks k m.1 a)

  last_join : (s : State) (ks : List Call) (k : Call) → last_of M s (ks ++ (k ∷ [])) ≡ next (answer k)
  unfolding last_of
  last_join s [] k = refl
  last_join s (j ∷ ks) k = last_join (next (answer j)) ks k

  made_after : {start s u : State} {ts : List (Turn Call)} (ks : List Call) → Reset start → MadeFrom M start ks → last_of M start ks ≡ s
      → MadeTurns s ts u → FromReset (since_after ks ts) u
  unfolding MadeFrom last_of since_after
  made_after ks r m e none = record { start = _; was_reset = r; made = m; last = e }
  made_after ks r m e (afresh {t = t} p w) = made_after {start = t} [] p tt refl w
  made_after {start = start} ks r m e (called {k} a w) = made_after {start = start} (ks ++ (k ∷ [])) r (made_join _ ks k m (rw e a)) (last_join _ ks k) w

  -- THE LAW, from any record
  pub made_since : {s u : State} {ts : List (Turn Call)} → MadeTurns s (reset ∷ ts) u → FromReset (since ts) u
  unfolding MadeFrom last_of
  made_since (afresh p w) = made_after [] p tt refl w
