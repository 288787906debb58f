-- Checks that antt computes: a test at every number below n, and a test at every entry of a list.
-- One law turns each into the fact at a place.
-- Assumes nothing.
use Rattle.std.specs.Prelude.{◌≡◌, Bool, true, ◌&&◌, List, [], ◌∷◌, ℕ, zero, suc, ◌+◌, ◌<◌, T, length, get_or}
use Rattle.std.proofs.Common.{◌∙◌, subst, sym, ⊎_elim, add-zero, zero-add, add-suc, suc-add, le_of_suc-le-suc, not-suc-le-zero, eq-or-lt_of_le}
use Rattle.std.proofs.Math.Facts.{and_yes}

-- f holds of every number below n
abbrev pub below : ℕ → (ℕ → Bool) → Bool
below zero f = true
below (suc n) f = f n && below n f

pub below_at : (n : ℕ) (f : ℕ → Bool) → T (below n f) → (k : ℕ) → k < n → T (f k)
below_at zero f t k h = absurd (not-suc-le-zero h)
below_at (suc n) f t k h =
    ⊎_elim (λ (e : k ≡ n). subst (λ (m : ℕ). T (f m)) (sym e) (and_yes (f n) (below n f) t).0)
    (λ (l : k < n). below_at n f (and_yes (f n) (below n f) t).1 k l)
    (eq-or-lt_of_le (le_of_suc-le-suc h))

-- f holds of every entry and its place, counted from i
abbrev pub each : {A : Type 0} → (ℕ → A → Bool) → ℕ → List A → Bool
each f i [] = true
each f i (x ∷ xs) = f i x && each f (suc i) xs

module _ {A : Type 0} (d : A) (f : ℕ → A → Bool) where
  from : (xs : List A) (i : ℕ) → T (each f i xs) → (k : ℕ) → k < length xs → T (f (i + k) (get_or xs k d))
  from [] i t k h = absurd (not-suc-le-zero h)
  from (x ∷ xs) i t zero h = subst (λ (m : ℕ). T (f m x)) (sym (add-zero i)) (and_yes (f i x) (each f (suc i) xs) t).0
  from (x ∷ xs) i t (suc k) h =
      subst (λ (m : ℕ). T (f m (get_or xs k d))) (suc-add i k ∙ sym (add-suc i k))
      (from xs (suc i) (and_yes (f i x) (each f (suc i) xs) t).1 k (le_of_suc-le-suc h))

  pub each_at : (xs : List A) → T (each f 0 xs) → (k : ℕ) → k < length xs → T (f k (get_or xs k d))
  each_at xs t k h = subst (λ (m : ℕ). T (f m (get_or xs k d))) (zero-add k) (from xs 0 t k h)
