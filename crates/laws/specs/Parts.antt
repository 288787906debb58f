-- A lent slice that is filled part by part, from the front.
-- Assumes nothing.
use Rattle.std.specs.Prelude.{◌≡◌, List, [], ◌∷◌, ◌++◌, ℕ, suc, ◌+◌, ◌-◌, ◌≤◌, length, take, set}
use Rattle.std.proofs.Common.{sym, ap, ◌∙◌, append_assoc, append-nil, arith, length-append, drop_of_length-le, take_at, length-take-le}
use Rattle.std.proofs.lemmas.List.Edits.{sets-eq}
use borrow.Rule.Slice.PartMut.{put_mid}

-- places a to e, written behind what stands before them
pub behind : {A : Type 0} (a e : ℕ) (xs ys p : List A) → a ≤ e → e ≤ length xs → length ys ≡ e - a → take a xs ≡ p
    → take e (put_mid a (e - a) xs ys) ≡ p ++ ys
behind a e xs ys p h k l f =
    let lp : length p ≡ a = ap length (sym f) ∙ length-take-le a xs (omega arith) in
    let len : length (p ++ ys) ≡ e = length-append p ys ∙ omega arith in
    rw (f, ← append_assoc) (take_at (p ++ ys) _ e len)

-- the last two
pub last_two : {A : Type 0} (n : ℕ) (xs p : List A) (x y : A) → length xs ≡ n + 2 → take n xs ≡ p
    → set (set xs n x) (suc n) y ≡ p ++ (x ∷ y ∷ [])
last_two n xs p x y l f =
    let h : length xs ≤ n + 2 = omega arith in
    sets-eq (x ∷ y ∷ []) xs n (omega arith) ∙ rw (f, drop_of_length-le xs h, append-nil)
