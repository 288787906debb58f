-- Two rows taken together, place by place.
-- Assumes nothing.
use Rattle.std.specs.Prelude.{◌≡◌, ℤ, pos, length, take, get_or}
use Rattle.std.proofs.Math.Path.{refl, ap}
use mathlib.Core.List.{List, [], ◌∷◌, ◌++◌, zip_with}
use Prim.Native.Nat.{ℕ, zero, suc, ◌<◌}
use Rattle.std.proofs.Common.{arith}

module _ (f : ℤ → ℤ → ℤ) where
  pub zip_length : (xs ys : List ℤ) → length xs ≡ length ys → length (zip_with f xs ys) ≡ length xs
  unfolding zip_with
  zip_length [] ys e = refl
  zip_length (x ∷ xs) [] e = absurd (omega arith)
  zip_length (x ∷ xs) (y ∷ ys) e = ap suc (zip_length xs ys (omega arith))

  pub zip_at : (xs ys : List ℤ) (i : ℕ) → length xs ≡ length ys → i < length xs
      → get_or (zip_with f xs ys) i (pos 0) ≡ f (get_or xs i (pos 0)) (get_or ys i (pos 0))
  unfolding zip_with
  zip_at [] ys i e h = absurd (omega arith)
  zip_at (x ∷ xs) [] i e h = absurd (omega arith)
  zip_at (x ∷ xs) (y ∷ ys) zero e h = refl
  zip_at (x ∷ xs) (y ∷ ys) (suc i) e h = zip_at xs ys i (omega arith) (omega arith)

  pub take_zip : (n : ℕ) (xs ys : List ℤ) → take n (zip_with f xs ys) ≡ zip_with f (take n xs) (take n ys)
  unfolding zip_with
  take_zip zero xs ys = refl
  take_zip (suc n) [] ys = refl
  take_zip (suc n) (x ∷ xs) [] = refl
  take_zip (suc n) (x ∷ xs) (y ∷ ys) = ap (λ (l : List ℤ). f x y ∷ l) (take_zip n xs ys)

  pub zip_append : (xs xs' ys ys' : List ℤ) → length xs ≡ length xs'
      → zip_with f (xs ++ ys) (xs' ++ ys') ≡ zip_with f xs xs' ++ zip_with f ys ys'
  unfolding zip_with
  zip_append [] [] ys ys' e = refl
  zip_append [] (x ∷ xs') ys ys' e = absurd (omega arith)
  zip_append (x ∷ xs) [] ys ys' e = absurd (omega arith)
  zip_append (x ∷ xs) (y ∷ xs') ys ys' e = ap (λ (l : List ℤ). f x y ∷ l) (zip_append xs xs' ys ys' (omega arith))
