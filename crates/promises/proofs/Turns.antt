-- An end that is reset on the way. What it keeps and what it gives depend on nothing that stood before its last reset: they are what
-- it keeps and gives from reset, of what it took since then. One law for every end.
-- Assumes nothing.
use mathlib.Core.List.{List, [], ◌∷◌, ◌++◌, map}

-- ---- turns

-- what an end does in turn: it is reset, or it takes one more
pub data Turn (A : Type 0) : Type 0 where
  reset : Turn A
  more : A → Turn A

abbrev pub on_turn : {A B : Type 0} → (A → B) → Turn A → Turn B
on_turn f reset = reset
on_turn f (more a) = more (f a)

-- what was taken since the last reset, where so much was taken before these turns; and where nothing was
unfoldable pub since_after : {A : Type 0} → List A → List (Turn A) → List A
since_after before [] = before
since_after before (reset ∷ ts) = since_after [] ts
since_after before (more a ∷ ts) = since_after (before ++ (a ∷ [])) ts

abbrev pub since : {A : Type 0} → List (Turn A) → List A
since ts = since_after [] ts

-- ---- an end: how it goes on from a record with what it takes, and the record of reset

module _ {S A : Type 0} (next : S → A → S) (start : S) where
  -- the record after turns
  unfoldable pub turned : S → List (Turn A) → S
  turned s [] = s
  turned s (reset ∷ ts) = turned start ts
  turned s (more k ∷ ts) = turned (next s k) ts

  module _ {Z : Type 0} (out : S → A → List Z) where
    -- what it gives of all that it takes; and turn by turn, each reset in its place
    unfoldable pub given : S → List A → List Z
    given s [] = []
    given s (k ∷ ks) = out s k ++ given (next s k) ks

    unfoldable pub given_in_turn : S → List (Turn A) → List (Turn Z)
    given_in_turn s [] = []
    given_in_turn s (reset ∷ ts) = reset ∷ given_in_turn start ts
    given_in_turn s (more k ∷ ts) = map more (out s k) ++ given_in_turn (next s k) ts
