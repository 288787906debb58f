-- What an end keeps and gives depends on nothing that stood before its last reset. One law for every end.
-- Assumes nothing.
use Rattle.std.specs.Prelude.{◌≡◌}
use Rattle.std.proofs.Math.Path.{refl, sym, ap}
use Rattle.std.proofs.Common.{◌∙◌}
use mathlib.Core.List.{List, [], ◌∷◌, ◌++◌, map, map-append, foldl, foldl-append, append-nil, append_assoc}
use Rattle.promises.proofs.Turns.{Turn, reset, more, on_turn, since_after, since, turned, given, given_in_turn}

module _ {A : Type 0} where
  since_more : (before ks : List A) (ts : List (Turn A)) → since_after before (map more ks ++ ts) ≡ since_after (before ++ ks) ts
  unfolding since_after
  since_more before [] ts = ap (λ (l : List A). since_after l ts) (sym (append-nil before))
  since_more before (k ∷ ks) ts =
      since_more (before ++ (k ∷ [])) ks ts ∙ ap (λ (l : List A). since_after l ts) (append_assoc before (k ∷ []) ks)

  since_reset : (before : List A) (ts us : List (Turn A)) → since_after before (ts ++ (reset ∷ us)) ≡ since us
  unfolding since_after
  since_reset before [] us = refl
  since_reset before (reset ∷ ts) us = since_reset [] ts us
  since_reset before (more a ∷ ts) us = since_reset (before ++ (a ∷ [])) ts us

  -- so it is all, where there was no reset, and all that follows the last one
  pub since_none : (ks : List A) → since (map more ks) ≡ ks
  unfolding since_after
  since_none ks = ap since (sym (append-nil (map more ks))) ∙ since_more [] ks []

  pub since_last : (ts : List (Turn A)) (ks : List A) → since (ts ++ (reset ∷ map more ks)) ≡ ks
  since_last ts ks = since_reset [] ts (map more ks) ∙ since_none ks

  module _ {B : Type 0} (f : A → B) where
    since_map_after : (before : List A) (ts : List (Turn A)) → since_after (map f before) (map (on_turn f) ts) ≡ map f (since_after before ts)
    unfolding since_after
    since_map_after before [] = refl
    since_map_after before (reset ∷ ts) = since_map_after [] ts
    since_map_after before (more a ∷ ts) =
        ap (λ (l : List B). since_after l (map (on_turn f) ts)) (sym (map-append f before (a ∷ [])))
        ∙ since_map_after (before ++ (a ∷ [])) ts

    pub since_map : (ts : List (Turn A)) → since (map (on_turn f) ts) ≡ map f (since ts)
    since_map ts = since_map_after [] ts

-- ---- an end: how it goes on from a record with what it takes, and the record of reset

module _ {S A : Type 0} (next : S → A → S) (start : S) where
  turned_after : (ks : List A) (ts : List (Turn A)) → turned next start (foldl next start ks) ts ≡ foldl next start (since_after ks ts)
  unfolding turned since_after
  turned_after ks [] = refl
  turned_after ks (reset ∷ ts) = turned_after [] ts
  turned_after ks (more k ∷ ts) =
      ap (λ (s : S). turned next start s ts) (sym (foldl-append next start ks (k ∷ []))) ∙ turned_after (ks ++ (k ∷ [])) ts

  -- THE LAW, of the record: begun at reset ..
  pub turned_since : (ts : List (Turn A)) → turned next start start ts ≡ foldl next start (since ts)
  turned_since ts = turned_after [] ts

  -- .. and begun anywhere, once there is a reset
  pub past_forgotten : (s : S) (before ts : List (Turn A)) → turned next start s (before ++ (reset ∷ ts)) ≡ foldl next start (since ts)
  unfolding turned
  past_forgotten s [] ts = turned_since ts
  past_forgotten s (reset ∷ before) ts = past_forgotten start before ts
  past_forgotten s (more k ∷ before) ts = past_forgotten (next s k) before ts

  module _ {Z : Type 0} (out : S → A → List Z) where
    given_join : (s : S) (ks : List A) (k : A) → given next start out s ks ++ out (foldl next s ks) k ≡ given next start out s (ks ++ (k ∷ []))
    unfolding given
    given_join s [] k = sym (append-nil (out s k))
    given_join s (j ∷ ks) k =
        append_assoc (out s j) (given next start out (next s j) ks) _ ∙ ap (λ (l : List Z). out s j ++ l) (given_join (next s j) ks k)

    given_after : (ks : List A) (ts : List (Turn A))
        → since_after (given next start out start ks) (given_in_turn next start out (foldl next start ks) ts) ≡ given next start out start (since_after ks ts)
    unfolding given given_in_turn since_after
    given_after ks [] = refl
    given_after ks (reset ∷ ts) = given_after [] ts
    given_after ks (more k ∷ ts) =
        let all = ks ++ (k ∷ []) in
        let same : next (foldl next start ks) k ≡ foldl next start all = sym (foldl-append next start ks (k ∷ [])) in
        since_more (given next start out start ks) (out (foldl next start ks) k) _
        ∙ (λ i. since_after (given_join start ks k i) (given_in_turn next start out (same i) ts))
        ∙ given_after all ts

    -- THE LAW, of what it gives
    pub given_since : (ts : List (Turn A)) → since (given_in_turn next start out start ts) ≡ given next start out start (since ts)
    unfolding given
    given_since ts = given_after [] ts
