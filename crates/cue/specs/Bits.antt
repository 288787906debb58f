-- Laws of bits: how many there are, which stands where, and what they spell.
-- Assumes nothing.
use Rattle.std.specs.Prelude.{◌≡◌, refl, List, [], ◌∷◌, ◌++◌, ℕ, zero, suc, ◌+◌, ◌*◌, ◌/◌, ◌%◌, ◌-◌, ◌^◌, ◌≤◌, ◌<◌, length, take, drop, get_or}
use Rattle.std.proofs.Common.{sym, ap, ap₂, ◌∙◌, pow-suc, mul-le-mul_right, div-one, mod-lt, div-add-mod', div-lt_iff_lt-mul, arith, length-append, get_or-append-add}
use Rattle.std.proofs.Math.Nat.{div-eq_of_lt-le, div-div-eq-div-mul}
use Rattle.std.proofs.Math.ListN.{get_or-append}
use Rattle.laws.specs.Turns.{drop_one}
use Rattle.g722.specs.Cue.{bits, bits_of, spelt}

-- every entry is below n
abbrev pub Below : ℕ → List ℕ → Type 0
Below n [] = Unit {0}
Below n (x ∷ rest) = (x < n) × Below n rest

below_append : (n : ℕ) (xs ys : List ℕ) → Below n xs → Below n ys → Below n (xs ++ ys)
below_append n [] ys p q = q
below_append n (x ∷ xs) ys p q = (p.0, below_append n xs ys p.1 q)

pub below_take : (n k : ℕ) (xs : List ℕ) → Below n xs → Below n (take k xs)
below_take n zero xs p = tt
below_take n (suc k) [] p = tt
below_take n (suc k) (x ∷ xs) p = (p.0, below_take n k xs p.1)

pub below_drop : (n k : ℕ) (xs : List ℕ) → Below n xs → Below n (drop k xs)
below_drop n zero xs p = p
below_drop n (suc k) [] p = tt
below_drop n (suc k) (x ∷ xs) p = below_drop n k xs p.1

-- ---- bits are 0 or 1, and there are as many as were asked for

below_bits : (k x : ℕ) → Below 2 (bits k x)
unfolding bits
below_bits zero x = tt
below_bits (suc k) x = (omega arith, below_bits k x)

pub below_bits_of : (k : ℕ) (xs : List ℕ) → Below 2 (bits_of k xs)
unfolding bits_of
below_bits_of k [] = tt
below_bits_of k (x ∷ rest) = below_append 2 (bits k x) (bits_of k rest) (below_bits k x) (below_bits_of k rest)

pub length-bits : (k x : ℕ) → length (bits k x) ≡ k
unfolding bits
length-bits zero x = refl
length-bits (suc k) x = ap suc (length-bits k x)

pub length-bits_of : (k : ℕ) (xs : List ℕ) → length (bits_of k xs) ≡ k * length xs
unfolding bits_of
length-bits_of k [] = omega arith
length-bits_of k (x ∷ rest) = simp (length-append, length-bits, length-bits_of k rest) (omega arith)

-- ---- which bit stands where: bit j of byte i

bit_at : (k x j : ℕ) → j < k → get_or (bits k x) j 0 ≡ x / 2 ^ (k - 1 - j) % 2
unfolding bits
bit_at zero x j h = absurd (omega arith)
bit_at (suc k) x zero h = let e : suc k - 1 - 0 ≡ k = omega arith in rw e
bit_at (suc k) x (suc j) h = let e : suc k - 1 - suc j ≡ k - 1 - j = omega arith in rw e (bit_at k x j (omega arith))

pub bits_of_at : (k : ℕ) (xs : List ℕ) (i j : ℕ) → i < length xs → j < k
    → get_or (bits_of k xs) (i * k + j) 0 ≡ get_or xs i 0 / 2 ^ (k - 1 - j) % 2
unfolding bits_of
bits_of_at k [] i j h l = absurd (omega arith)
bits_of_at k (x ∷ rest) zero j h l =
    let e : 0 * k + j ≡ j = omega arith in
    let s : j < length (bits k x) = rw (length-bits k x) l in
    rw (e, get_or-append (bits k x) (bits_of k rest) 0 j s) (bit_at k x j l)
bits_of_at k (x ∷ rest) (suc i) j h l =
    let e : suc i * k + j ≡ length (bits k x) + (i * k + j) = rw (length-bits k x) (omega arith) in
    rw (e, get_or-append-add (bits k x) (bits_of k rest) (i * k + j) 0) (bits_of_at k rest i j (omega arith) l)

-- bit n of all of them is bit n % k of byte n / k
module _ (k n : ℕ) (xs : List ℕ) (h : 0 < k) (l : n < k * length xs) where
  pub byte_of : n / k < length xs
  byte_of = (div-lt_iff_lt-mul h).1 (omega arith)

  pub bit_of : get_or (bits_of k xs) n 0 ≡ get_or xs (n / k) 0 / 2 ^ (k - 1 - n % k) % 2
  bit_of = ap (λ (m : ℕ). get_or (bits_of k xs) m 0) (sym (div-add-mod' n k)) ∙ bits_of_at k xs (n / k) (n % k) byte_of (mod-lt n h)

-- ---- what bits spell, bit by bit

pub spelt_turn : (v at l : ℕ) (from : List ℕ) → 0 < l → at < length from
    → spelt (v * 2 + get_or from at 0) (take (l - 1) (drop (at + 1) from)) ≡ spelt v (take l (drop at from))
unfolding spelt
spelt_turn v at zero from h k = absurd (omega arith)
spelt_turn v at (suc l) from h k = let e : suc l - 1 ≡ l = omega arith in rw (e, drop_one from at 0 k)

-- ---- what bits spell after n: n itself stands above them

within : (n : ℕ) (l : List ℕ) → Below 2 l → (n * 2 ^ length l ≤ spelt n l) × (spelt n l < (n + 1) * 2 ^ length l)
unfolding spelt
within n [] p = (omega arith, omega arith)
within n (b ∷ rest) p =
    let m = 2 ^ length rest in
    let ih = within (n * 2 + b) rest p.1 in
    let h : b * m ≤ 1 * m = mul-le-mul_right m (omega arith) in
    rw (pow-suc 2 (length rest)) (omega arith, omega arith)

pub above : (n : ℕ) (l : List ℕ) → Below 2 l → spelt n l / 2 ^ length l ≡ n
above n l p = let h = within n l p in div-eq_of_lt-le (2 ^ length l) h.0 h.1

pub spelt_less : (l : List ℕ) → Below 2 l → spelt 0 l < 2 ^ length l
spelt_less l p = let h = within 0 l p in omega arith

pub spelt_after : (n : ℕ) (l : List ℕ) → n * 2 ^ length l + spelt 0 l ≡ spelt n l
unfolding spelt
spelt_after n [] = omega arith
spelt_after n (b ∷ rest) =
    let e = spelt_after (n * 2 + b) rest in
    let f = spelt_after (0 * 2 + b) rest in
    rw (pow-suc 2 (length rest)) (omega arith)

-- ---- the bits of what bits spell are they, and what the bits of a number spell is it

pub bits_spelt : (n : ℕ) (l : List ℕ) → Below 2 l → bits (length l) (spelt n l) ≡ l
unfolding bits spelt
bits_spelt n [] p = refl
bits_spelt n (b ∷ rest) p =
    let e = above (n * 2 + b) rest p.1 in
    ap₂ ◌∷◌ (rw e (omega arith)) (bits_spelt (n * 2 + b) rest p.1)

pub spelt_bits : (k x : ℕ) → spelt (x / 2 ^ k) (bits k x) ≡ x
unfolding bits spelt
spelt_bits zero x = div-one x
spelt_bits (suc k) x =
    let e : x / 2 ^ suc k * 2 + x / 2 ^ k % 2 ≡ x / 2 ^ k = rw (pow-suc 2 k, ← div-div-eq-div-mul x (2 ^ k) 2) (omega arith) in
    ap (λ (n : ℕ). spelt n (bits k x)) e ∙ spelt_bits k x
