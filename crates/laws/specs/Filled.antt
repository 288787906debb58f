-- A row that is filled from the front: its first i entries are those of z.
-- Assumes nothing.
use Rattle.std.specs.Prelude.{◌≡◌, List, [], ◌∷◌, ◌++◌, ℕ, ◌+◌, ◌^◌, ◌≤◌, ◌<◌, ℤ, pos, length, take, drop, get_or, set}
use Rattle.std.proofs.Common.{sym, ap, ◌∙◌, append-nil, add-one, arith, length-set, length-drop, drop_of_length-le, take_all, take-suc, take-suc-set, get_or-drop, to_z, of_z}
use Rattle.std.proofs.lemmas.List.Edits.{sets, sets-eq}
use Rattle.std.specs.Int.Signed.{mag}
use Rattle.std.specs.Int.{w16}
use Rattle.laws.specs.Back.{back16}

-- of the m entries of a row, the first i are those of z
module _ {A : Type 0} (z : List A) (m : ℕ) where
  pub record Filled (row : List A) (i : ℕ) : Type 0 where
    pub long : length row ≡ m
    pub is : take i row ≡ take i z

  module _ {row : List A} {i : ℕ} (e : Filled row i) where
    -- the next is stored
    pub fill : {v : A} (d : A) → i < length z → i < m → v ≡ get_or z i d → Filled (set row i v) (i + 1)
    fill {v} d h k f =
        let l : i < length row = omega arith in
        rw add-one (record {
          long = length-set row i v ∙ e.long;
          is = take-suc-set row i v l ∙ (λ q. e.is q ++ (f q ∷ [])) ∙ sym (take-suc z i d h);
        })

    -- all are, and vs is stored after them
    pub filled : (vs : List A) → i ≡ length z → i + length vs ≡ m → sets row i vs ≡ z ++ vs
    filled vs h k =
        let a : take i row ≡ z = e.is ∙ take_all i z (omega arith) in
        let o : length row ≤ i + length vs = omega arith in
        sets-eq vs row i (omega arith) ∙ (λ q. a q ++ vs ++ drop_of_length-le row o q) ∙ append-nil (z ++ vs)

-- a copy of the numbers of s from place k on: the next stands at j
pub copy : (k : ℕ) (s : List ℤ) (m : ℕ) {row : List ℤ} {i : ℕ} → Filled (drop k s) m row i → (j : ℕ) → j ≡ k + i → j < length s → i < m
    → mag (get_or s j (pos 0)) < 2 ^ 15 → Filled (drop k s) m (set row i (to_z w16 (of_z w16 (get_or s j (pos 0))))) (i + 1)
copy k s m {row} {i} e j f l h b =
    let r : i < length (drop k s) = simp length-drop (omega arith) in
    fill (drop k s) m e (pos 0) r h (back16 (get_or s j (pos 0)) b ∙ ap (λ (n : ℕ). get_or s n (pos 0)) f ∙ sym (get_or-drop k s i (pos 0)))
