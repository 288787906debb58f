-- Rows with an entry for each port: two rows taken together, a table after a tick, and either without the entry of one port.
-- Assumes nothing.
use Rattle.std.specs.Prelude.{◌≡◌, length, take, get_or, set}
use Rattle.std.proofs.Math.Path.{refl, ap}
use mathlib.Core.List.{List, [], ◌∷◌, zip, zip_with}
use Prim.Native.Nat.{ℕ, zero, suc, min, ◌<◌}
use native.Mathlib.Omega.{arith}
use Rattle.conference.specs.Sums.{without}
use Rattle.conference.specs.Ports.{each_port}

-- an entry that is there, whatever stands past the end
pub same_at : {A : Type 0} (xs : List A) (k : ℕ) (a b : A) → k < length xs → get_or xs k a ≡ get_or xs k b
same_at [] k a b h = absurd (omega arith)
same_at (x ∷ xs) zero a b h = refl
same_at (x ∷ xs) (suc k) a b h = same_at xs k a b (omega arith)

-- ---- two rows together

module _ {A B C : Type 0} (f : A → B → C) where
  pub zip_length : (xs : List A) (ys : List B) → length (zip_with f xs ys) ≡ min (length xs) (length ys)
  unfolding zip_with
  zip_length [] ys = omega arith
  zip_length (x ∷ xs) [] = omega arith
  zip_length (x ∷ xs) (y ∷ ys) = let l = zip_length xs ys in omega arith

  pub zip_at : (xs : List A) (ys : List B) (k : ℕ) (a : A) (b : B) (c : C) → k < length xs → k < length ys
      → get_or (zip_with f xs ys) k c ≡ f (get_or xs k a) (get_or ys k b)
  unfolding zip_with
  zip_at [] ys k a b c h l = absurd (omega arith)
  zip_at (x ∷ xs) [] k a b c h l = absurd (omega arith)
  zip_at (x ∷ xs) (y ∷ ys) zero a b c h l = refl
  zip_at (x ∷ xs) (y ∷ ys) (suc k) a b c h l = zip_at xs ys k a b c (omega arith) (omega arith)

  pub zip_none : (xs : List A) → zip_with f xs [] ≡ []
  unfolding zip_with
  zip_none [] = refl
  zip_none (x ∷ xs) = refl

  pub zip_without : (k : ℕ) (xs : List A) (ys : List B) → without k (zip_with f xs ys) ≡ zip_with f (without k xs) (without k ys)
  unfolding zip_with without
  zip_without zero [] ys = refl
  zip_without (suc k) [] ys = refl
  zip_without zero (x ∷ []) [] = refl
  zip_without zero (x ∷ y ∷ xs) [] = refl
  zip_without (suc k) (x ∷ xs) [] = refl
  zip_without zero (x ∷ xs) (y ∷ ys) = refl
  zip_without (suc k) (x ∷ xs) (y ∷ ys) = ap (λ (l : List C). f x y ∷ l) (zip_without k xs ys)

module _ {A B : Type 0} where
  abbrev pairing : A → B → A × B
  pairing a b = (a, b)

  pub pairs_length : (xs : List A) (ys : List B) → length (zip xs ys) ≡ min (length xs) (length ys)
  unfolding zip
  pairs_length = zip_length pairing

  pub pairs_at : (xs : List A) (ys : List B) (k : ℕ) (a : A) (b : B) (c : A × B) → k < length xs → k < length ys
      → get_or (zip xs ys) k c ≡ (get_or xs k a, get_or ys k b)
  unfolding zip
  pairs_at = zip_at pairing

  pub pairs_without : (k : ℕ) (xs : List A) (ys : List B) → without k (zip xs ys) ≡ zip (without k xs) (without k ys)
  unfolding zip
  pairs_without = zip_without pairing

-- ---- a table of records

module _ {A B : Type 0} (next : A → B → A) where
  pub each_length : (xs : List A) (ys : List B) → length (each_port next xs ys) ≡ length xs
  unfolding each_port
  each_length [] ys = refl
  each_length (x ∷ xs) [] = refl
  each_length (x ∷ xs) (y ∷ ys) = ap suc (each_length xs ys)

  -- a port that was given something, and one that was not
  pub each_at : (xs : List A) (ys : List B) (k : ℕ) (a : A) (b : B) → k < length xs → k < length ys
      → get_or (each_port next xs ys) k a ≡ next (get_or xs k a) (get_or ys k b)
  unfolding each_port
  each_at [] ys k a b h l = absurd (omega arith)
  each_at (x ∷ xs) [] k a b h l = absurd (omega arith)
  each_at (x ∷ xs) (y ∷ ys) zero a b h l = refl
  each_at (x ∷ xs) (y ∷ ys) (suc k) a b h l = each_at xs ys k a b (omega arith) (omega arith)

  pub each_not_yet : (xs : List A) (ys : List B) (k : ℕ) (a : A) → get_or (each_port next xs (take k ys)) k a ≡ get_or xs k a
  unfolding each_port
  each_not_yet [] ys zero a = refl
  each_not_yet [] ys (suc k) a = refl
  each_not_yet (x ∷ xs) ys zero a = refl
  each_not_yet (x ∷ xs) [] (suc k) a = refl
  each_not_yet (x ∷ xs) (y ∷ ys) (suc k) a = each_not_yet xs ys k a

  -- one port more
  pub each_one_more : (xs : List A) (ys : List B) (k : ℕ) (a : A) (b : B) → k < length xs → k < length ys
      → set (each_port next xs (take k ys)) k (next (get_or xs k a) (get_or ys k b)) ≡ each_port next xs (take (suc k) ys)
  unfolding each_port
  each_one_more [] ys k a b h l = absurd (omega arith)
  each_one_more (x ∷ xs) [] k a b h l = absurd (omega arith)
  each_one_more (x ∷ []) (y ∷ ys) zero a b h l = refl
  each_one_more (x ∷ z ∷ xs) (y ∷ ys) zero a b h l = refl
  each_one_more (x ∷ xs) (y ∷ ys) (suc k) a b h l =
      ap (λ (t : List A). next x y ∷ t) (each_one_more xs ys k a b (omega arith) (omega arith))

  pub each_without : (k : ℕ) (xs : List A) (ys : List B)
      → without k (each_port next xs ys) ≡ each_port next (without k xs) (without k ys)
  unfolding each_port without
  each_without zero [] ys = refl
  each_without (suc k) [] ys = refl
  each_without zero (x ∷ []) [] = refl
  each_without zero (x ∷ y ∷ xs) [] = refl
  each_without (suc k) (x ∷ xs) [] = refl
  each_without zero (x ∷ xs) (y ∷ ys) = refl
  each_without (suc k) (x ∷ xs) (y ∷ ys) = ap (λ (t : List A). next x y ∷ t) (each_without k xs ys)
