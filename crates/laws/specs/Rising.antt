-- Lists in which no entry falls below the one before it.
-- Assumes nothing.
use Rattle.std.specs.Prelude.{List, [], ◌∷◌, map}

abbrev pub Rising : {A : Type 0} → (A → A → Type 0) → List A → Type 0
Rising R [] = Unit {0}
Rising R (x ∷ []) = Unit {0}
Rising R (x ∷ y ∷ rest) = R x y × Rising R (y ∷ rest)

-- a function that keeps the order keeps a list rising
pub rising_map : {A B : Type 0} (R : A → A → Type 0) (S : B → B → Type 0) (f : A → B)
    → ((x y : A) → R x y → S (f x) (f y)) → (xs : List A) → Rising R xs → Rising S (map f xs)
rising_map R S f keeps [] r = tt
rising_map R S f keeps (x ∷ []) r = tt
rising_map R S f keeps (x ∷ y ∷ rest) r = (keeps x y r.0, rising_map R S f keeps (y ∷ rest) r.1)
