-- A row that is made place by place, by calls that leave the closure as it was: what `array::from_fn` gives.
-- Assumes nothing.
use Rattle.std.proofs.Common.{◌≡◌, sym, ◌∙◌, List, ℕ, zero, suc, ◌+◌, ◌≤◌, ◌<◌, ℤ, pos, length, get_or, arith, ⊎_elim, eq-or-lt_of_le, ext_get_or}
use mathlib.Core.List.{zip_with}
use denote.Param.Members.{Mut, Called}
use Rattle.std.specs.Array.{IsFromFnResult, IsFromFnResultFrom}
use Rattle.laws.specs.Zipped.{zip_length, zip_at}

module _ {F : Type 0} (g : Mut F (ℕ × Unit {0}) ℤ) (h : ℕ → ℤ) (f : F)
    (same : (i : ℕ) (r : ℤ) (q : F) → Called g f (i, tt) r q → (q ≡ f) × (r ≡ h i)) (row : List ℤ) where
  at : (i n : ℕ) → IsFromFnResultFrom g f row i n → (k : ℕ) → i ≤ k → k < i + n → get_or row k (pos 0) ≡ h k
  at i zero e k l m = absurd (omega arith)
  at i (suc n) (q, y, e, c, more) k l m =
      ⊎_elim (λ (p : i ≡ k). rw (← p) (e.1 (pos 0) ∙ (same i y q c).1))
      (λ (p : i < k). at (i + 1) n (rw (same i y q c).0 at more) k (omega arith) (omega arith))
      (eq-or-lt_of_le l)

  -- so it is any list of that length which has those numbers
  pub made : (n : ℕ) → IsFromFnResult g f row n → (list : List ℤ) → length list ≡ n → ((k : ℕ) → k < n → get_or list k (pos 0) ≡ h k) → row ≡ list
  made n m list l e =
      ext_get_or (pos 0) row list (m.long ∙ sym l)
      (λ k b. at 0 n m.each k (omega arith) (omega (arith, m.long)) ∙ sym (e k (omega (arith, m.long))))

-- of two rows, number by number
module _ {F : Type 0} (g : Mut F (ℕ × Unit {0}) ℤ) (u : ℤ → ℤ → ℤ) (xs ys : List ℤ) (f : F)
    (same : (i : ℕ) (r : ℤ) (q : F) → Called g f (i, tt) r q → (q ≡ f) × (r ≡ u (get_or xs i (pos 0)) (get_or ys i (pos 0)))) (row : List ℤ) where
  pub zipped : (n : ℕ) → IsFromFnResult g f row n → length xs ≡ n → length ys ≡ n → row ≡ zip_with u xs ys
  zipped n m a b =
      made g (λ k. u (get_or xs k (pos 0)) (get_or ys k (pos 0))) f same row n m (zip_with u xs ys) (zip_length u xs ys (a ∙ sym b) ∙ a)
      (λ k l. zip_at u xs ys k (a ∙ sym b) (omega (arith, a)))
