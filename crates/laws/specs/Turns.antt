-- Turns of loops over lists: what comes off the front of the rest, and what a store moves from what is to come to what is done.
-- Assumes nothing.
use Rattle.std.specs.Prelude.{ℕ, ◌+◌, ◌*◌, ◌≤◌, ◌<◌, ◌≡◌, List, [], ◌∷◌, ◌++◌, length, take, drop, get_or, set}
use Rattle.std.proofs.Common.{ap, ◌∙◌, append_assoc, append-nil, add-one, arith, length-set, drop-cons, drop-set-lt, take-suc-set, take_all}

module _ {A : Type 0} where
  -- one element comes off the front
  pub drop_one : (s : List A) (i : ℕ) (d : A) → i < length s → drop i s ≡ get_or s i d ∷ drop (i + 1) s
  drop_one s i d h = rw add-one (drop-cons s i d h)

  -- two do
  pub drop_pair : (s : List A) (i : ℕ) (d : A) → 2 * i + 1 < length s
      → drop (2 * i) s ≡ get_or s (2 * i) d ∷ get_or s (2 * i + 1) d ∷ drop (2 * (i + 1)) s
  drop_pair s i d h =
      let e : 2 * i + 1 + 1 ≡ 2 * (i + 1) = omega arith in
      let k : 2 * i < length s = omega arith in
      drop_one s (2 * i) d k
      ∙ ap (λ (l : List A). get_or s (2 * i) d ∷ l) (drop_one s (2 * i + 1) d h ∙ ap (λ (n : ℕ). get_or s (2 * i + 1) d ∷ drop n s) e)

  -- a store at i
  pub put_one : (o rest : List A) (i : ℕ) (w : A) → i < length o → take (i + 1) (set o i w) ++ rest ≡ take i o ++ w ∷ rest
  put_one o rest i w h = rw (add-one, take-suc-set o i w h, append_assoc)

  -- the same where what is to come stands behind it in the same list, which a store leaves as it is
  pub still : (o : List A) (i : ℕ) (w : A) → drop (i + 1) (set o i w) ≡ drop (i + 1) o
  still o i w = let k : i < i + 1 = omega arith in drop-set-lt (i + 1) o i w k

  pub put_place : (f : List A → List A) (o : List A) (i : ℕ) (w : A) → i < length o
      → take (i + 1) (set o i w) ++ f (drop (i + 1) (set o i w)) ≡ take i o ++ w ∷ f (drop (i + 1) o)
  put_place f o i w h = rw still (put_one o (f (drop (i + 1) o)) i w h)

  -- where nothing is to come, all is done
  pub put_all : (o rest : List A) (i : ℕ) → length o ≤ i → rest ≡ [] → take i o ++ rest ≡ o
  put_all o rest i h e = rw (e, append-nil, take_all i o h)

  -- two stores, at 2 i and the next
  pub put_pair : (o rest : List A) (i : ℕ) (v w : A) → 2 * i + 1 < length o
      → take (2 * (i + 1)) (set (set o (2 * i) v) (2 * i + 1) w) ++ rest ≡ take (2 * i) o ++ v ∷ w ∷ rest
  put_pair o rest i v w h =
      let e : 2 * (i + 1) ≡ 2 * i + 1 + 1 = omega arith in
      let k : 2 * i < length o = omega arith in
      let l : 2 * i + 1 < length (set o (2 * i) v) = rw length-set h in
      ap (λ (n : ℕ). take n (set (set o (2 * i) v) (2 * i + 1) w) ++ rest) e
      ∙ put_one (set o (2 * i) v) rest (2 * i + 1) w l
      ∙ put_one o (w ∷ rest) (2 * i) v k
