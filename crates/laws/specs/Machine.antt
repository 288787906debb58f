-- A machine over a run: what it gives of each item, and where it stands in the end; and a loop that goes item by item.
-- Assumes nothing.
use Rattle.std.specs.Prelude.{◌≡◌, refl, ℕ, ◌+◌, ◌≤◌, ◌<◌, length, drop, get_or, set}
use Rattle.std.proofs.Math.Path.{sym, ap}
use Rattle.std.proofs.Common.{◌∙◌, drop_of_length-le}
use mathlib.Core.List.{List, [], ◌∷◌, ◌++◌}
use Rattle.std.proofs.Math.ListN.{take, length-set}
use Rattle.laws.specs.Turns.{drop_one, put_one, put_all}

unfoldable pub outs : {S A B : Type 0} → (S → A → B) → (S → A → S) → S → List A → List B
outs out next s [] = []
outs out next s (x ∷ xs) = out s x ∷ outs out next (next s x) xs

unfoldable pub last : {S A : Type 0} → (S → A → S) → S → List A → S
last next s [] = s
last next s (x ∷ xs) = last next (next s x) xs

-- after i items: what is left to do from here, from where the machine stands, gives the whole
module _ {S A B : Type 0} (out : S → A → B) (next : S → A → S) (s₀ : S) (xs : List A) (o₀ : List B) where
  pub record SoFar (s : S) (o : List B) (i : ℕ) : Type 0 where
    pub long : length o ≡ length o₀
    pub state : last next s (drop i xs) ≡ last next s₀ xs
    pub given : take i o ++ outs out next s (drop i xs) ≡ outs out next s₀ xs

  pub begun : SoFar s₀ o₀ 0
  begun = record { long = refl; state = refl; given = refl }

  module _ {s : S} {o : List B} {i : ℕ} (f : SoFar s o i) where
    pub more : {n : S} {w : B} (d : A) → i < length xs → i < length o → w ≡ out s (get_or xs i d) → n ≡ next s (get_or xs i d)
        → SoFar n (set o i w) (i + 1)
    unfolding outs last
    more {n} {w} d h k w≡ n≡ =
        record {
          long = length-set o i w ∙ f.long;
          state =
              ap (λ (t : S). last next t (drop (i + 1) xs)) n≡
              ∙ sym (ap (last next s) (drop_one xs i d h))
              ∙ f.state;
          given =
              put_one o _ i w k
              ∙ (λ j. take i o ++ w≡ j ∷ outs out next (n≡ j) (drop (i + 1) xs))
              ∙ ap (λ (l : List B). take i o ++ l) (sym (ap (outs out next s) (drop_one xs i d h)))
              ∙ f.given;
        }

    module _ (h : length xs ≤ i) where
      pub state_ended : s ≡ last next s₀ xs
      unfolding last
      state_ended = sym (ap (last next s) (drop_of_length-le xs h)) ∙ f.state

      pub given_ended : length o ≤ i → o ≡ outs out next s₀ xs
      unfolding outs
      given_ended k = sym (put_all o _ i k (ap (outs out next s) (drop_of_length-le xs h))) ∙ f.given
