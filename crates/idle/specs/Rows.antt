-- Rows of eight lanes against the six of a record: the coefficients from o on, the differences from i on.
-- Assumes nothing.
use Rattle.std.specs.Prelude.{◌≡◌, refl, ℕ, zero, suc, ◌+◌, ◌-◌, ◌*◌, ◌^◌, ◌≤◌, ◌<◌, ℤ, pos, negsuc, neg_ℤ, ◌+ℤ◌, ◌*ℤ◌, set, ◌≤ℤ◌}
use Rattle.std.proofs.Math.Path.{sym, ap}
use Rattle.std.proofs.Common.{◌∙◌, length-append, take_at, take-add, take-take, drop-drop, drop_at, drop-set-lt, take-suc-set}
use mathlib.Core.List.{List, [], ◌∷◌, ◌++◌, zip_with}
use native.Mathlib.Omega.{arith}
use Rattle.std.proofs.Math.ListN.{length, take, drop, replicate, length-drop}
use Rattle.std.proofs.lemmas.List.Edits.{sets-eq}
use Rattle.std.proofs.Math.Seq.{take-nil, take-append-le, length-take-le, take-set-le}
use Rattle.std.proofs.lemmas.List.{drop-set-add}
use Rattle.std.specs.Int.Signed.{mag}
use Rattle.laws.specs.Zipped.{zip_length, take_zip, zip_append}
use Rattle.laws.specs.Order.{zarith, add_read, size_within}
use Rattle.laws.specs.Clamp.{clamp, clamp_id, clamp_within}
use Rattle.g722.specs.Arithmetic.{neg, stop, add, mul}
use Rattle.g722.specs.Band.{slide, term, sums, filtez, upzero, next_zeros}
use Rattle.g722.specs.declared.Zeros.{Zeros}

unfoldable pub zeros_at : List ℤ → ℕ → List ℤ → ℕ → Zeros
zeros_at b o d i = record { b = take 6 (drop o b); d = take 6 (drop i d) }

-- the two lanes after the six differences from i on are 0
abbrev pub Quiet : List ℤ → ℕ → Type 0
Quiet d i = take 2 (drop (i + 6) d) ≡ replicate 2 (pos 0)

-- a history begins with six differences and two lanes that are 0
pub history_begun : (p h : List ℤ) → length p ≡ 6 → 8 ≤ length h
    → take 8 (set (set (p ++ drop 6 h) 6 (pos 0)) 7 (pos 0)) ≡ p ++ (pos 0 ∷ pos 0 ∷ [])
history_begun p h e k =
    let two = pos 0 ∷ pos 0 ∷ [] in
    let l = p ++ drop 6 h in
    let long : length l ≡ length h = length-append p (drop 6 h) ∙ simp length-drop (omega arith) in
    let first : take 6 l ≡ p = take_at p (drop 6 h) 6 e in
    let front : length (take 6 l ++ two) ≡ 8 = length-append (take 6 l) two ∙ omega (arith, ap length first) in
    ap (take 8) (sets-eq two l 6 (omega arith)) ∙ take_at (take 6 l ++ two) (drop 8 l) 8 front ∙ ap (λ (t : List ℤ). t ++ two) first

module _ (p d : List ℤ) (e : take 8 d ≡ p ++ (pos 0 ∷ pos 0 ∷ [])) (h : length p ≡ 6) where
  pub begun_six : take 6 d ≡ p
  begun_six = sym (take-take 6 8 d (omega arith)) ∙ ap (take 6) e ∙ take_at p (pos 0 ∷ pos 0 ∷ []) 6 h

  pub begun_quiet : Quiet d 0
  begun_quiet =
      sym (drop_at (take 6 d) (take 2 (drop 6 d)) 6 (ap length begun_six ∙ h))
      ∙ ap (drop 6) (sym (take-add 6 2 d) ∙ e)
      ∙ drop_at p (pos 0 ∷ pos 0 ∷ []) 6 h

-- ---- lanes whose difference is 0 add nothing

abbrev In : ℤ → Type 0
In s = (neg 32768 ≤ℤ s) × (s ≤ℤ pos 32767)

sums_append : (xs ys : List ℤ) (s : ℤ) → sums s (xs ++ ys) ≡ sums (sums s xs) ys
unfolding sums
sums_append [] ys s = refl
sums_append (x ∷ xs) ys s = sums_append xs ys (add s x)

sums_in : (xs : List ℤ) (s : ℤ) → In s → In (sums s xs)
unfolding sums add
sums_in [] s h = h
sums_in (x ∷ xs) s h = sums_in xs (add s x) (clamp_within (neg 32768) (pos 32767) (s +ℤ x) (omega zarith))

times_zero : (b : ℤ) → b *ℤ pos 0 ≡ pos 0
times_zero (pos n) = let e : n * 0 ≡ 0 = omega arith in ap pos e
times_zero (negsuc n) = let e : suc n * 0 ≡ 0 = omega arith in ap (λ (k : ℕ). neg_ℤ (pos k)) e

term_zero : (b : ℤ) → term b (pos 0) ≡ pos 0
unfolding term mul add clamp
term_zero b = rw (times_zero b)

add-zero : (s : ℤ) → In s → add s (pos 0) ≡ s
unfolding add
add-zero s h =
    let e : s +ℤ pos 0 ≡ s = omega (zarith, add_read s (pos 0)) in
    ap stop e ∙ clamp_id (neg 32768) (pos 32767) s h.0 h.1

idle : (bs : List ℤ) (n : ℕ) (s : ℤ) → In s → sums s (zip_with term bs (replicate n (pos 0))) ≡ s
unfolding sums zip_with
idle [] n s h = refl
idle (b ∷ bs) zero s h = refl
idle (b ∷ bs) (suc n) s h =
    let e : add s (term b (pos 0)) ≡ s = ap (add s) (term_zero b) ∙ add-zero s h in
    ap (λ (v : ℤ). sums v (zip_with term bs (replicate n (pos 0)))) e ∙ idle bs n s h

take_after : (n : ℕ) (l : List ℤ) → take n (drop 1 l) ≡ drop 1 (take (suc n) l)
take_after n [] = take-nil n
take_after n (x ∷ l) = refl

-- a chain's sum has 16 bits
pub sums_mag : (xs : List ℤ) → mag (sums (pos 0) xs) < 2 ^ 15
sums_mag xs =
    let h = sums_in xs (pos 0) (omega zarith, omega zarith) in
    omega (arith, size_within 32767 (sums (pos 0) xs) h.0 h.1)

-- ---- FILTEZ

module _ (b d : List ℤ) (o i : ℕ) (hb : o + 8 ≤ length b) (hd : i + 8 ≤ length d) where
  pub filtez_rows : Quiet d i → filtez (zeros_at b o d i) ≡ sums (pos 0) (zip_with term (take 8 (drop o b)) (take 8 (drop i d)))
  unfolding filtez zeros_at
  filtez_rows q =
      let B = drop o b in
      let D = drop i d in
      let lb : length (take 6 B) ≡ 6 = length-take-le 6 B (simp length-drop (omega arith)) in
      let ld : length (take 6 D) ≡ 6 = length-take-le 6 D (simp length-drop (omega arith)) in
      let z : take 2 (drop 6 D) ≡ replicate 2 (pos 0) = ap (take 2) (drop-drop 6 i d) ∙ q in
      let s = sums (pos 0) (zip_with term (take 6 B) (take 6 D)) in
      sym (
      (λ j. sums (pos 0) (zip_with term (take-add 6 2 B j) (take-add 6 2 D j)))
      ∙ ap (λ (l : List ℤ). sums (pos 0) (zip_with term (take 6 B ++ take 2 (drop 6 B)) (take 6 D ++ l))) z
      ∙ ap (sums (pos 0)) (zip_append term (take 6 B) (take 6 D) (take 2 (drop 6 B)) (replicate 2 (pos 0)) (lb ∙ sym ld))
      ∙ sums_append (zip_with term (take 6 B) (take 6 D)) (zip_with term (take 2 (drop 6 B)) (replicate 2 (pos 0))) (pos 0)
      ∙ idle (take 2 (drop 6 B)) 2 s (sums_in (zip_with term (take 6 B) (take 6 D)) (pos 0) (omega zarith, omega zarith))
      )

  -- ---- UPZERO

  pub adapted_rows : (e : ℤ) → o ≤ 8 → length b ≡ 16
      → let at = 8 - o in
      let n = zip_with (upzero e) (take 8 (drop o b)) (take 8 (drop i d)) in
      zeros_at (take at b ++ (n ++ drop (at + 8) b)) at (set (set d (i + 6) e) (i + 8) (pos 0)) (i + 1) ≡ next_zeros (zeros_at b o d i) e
  unfolding next_zeros zeros_at slide
  adapted_rows e k l =
      let B = drop o b in
      let D = drop i d in
      let at = 8 - o in
      let n = zip_with (upzero e) (take 8 B) (take 8 D) in
      let rest = drop (at + 8) b in
      let lb : length (take 8 B) ≡ 8 = length-take-le 8 B (simp length-drop (omega arith)) in
      let ld : length (take 8 D) ≡ 8 = length-take-le 8 D (simp length-drop (omega arith)) in
      let ln = zip_length (upzero e) (take 8 B) (take 8 D) (lb ∙ sym ld) in
      let p : take 6 (drop at (take at b ++ (n ++ rest))) ≡ zip_with (upzero e) (take 6 B) (take 6 D) =
      ap (take 6) (drop_at (take at b) (n ++ rest) at (length-take-le at b (omega arith)))
      ∙ take-append-le 6 n rest (omega arith)
      ∙ take_zip (upzero e) 6 (take 8 B) (take 8 D)
      ∙ (λ j. zip_with (upzero e) (take-take 6 8 B (omega arith) j) (take-take 6 8 D (omega arith) j)) in
      let f : i + 8 ≡ i + 1 + 7 = omega arith in
      let still : take 6 (drop (i + 1) (set (set d (i + 6) e) (i + 8) (pos 0))) ≡ take 6 (drop (i + 1) (set d (i + 6) e)) =
      ap (λ (m : ℕ). take 6 (drop (i + 1) (set (set d (i + 6) e) m (pos 0)))) f
      ∙ ap (take 6) (drop-set-add (i + 1) (set d (i + 6) e) 7 (pos 0))
      ∙ take-set-le 6 (drop (i + 1) (set d (i + 6) e)) 7 (pos 0) (omega arith) in
      let q : take 6 (drop (i + 1) (set d (i + 6) e)) ≡ drop 1 (take 6 D ++ (e ∷ [])) =
      ap (take 6) (sym (drop-drop 1 i (set d (i + 6) e)) ∙ ap (drop 1) (drop-set-add i d 6 e))
      ∙ take_after 6 (set D 6 e)
      ∙ ap (drop 1) (take-suc-set D 6 e (simp length-drop (omega arith))) in
      λ j. record { b = p j; d = (still ∙ q) j }

-- the next lane is made 0 for the next turn
pub quiet_on : (d : List ℤ) (i : ℕ) (e : ℤ) → i + 8 < length d → Quiet d i → Quiet (set (set d (i + 6) e) (i + 8) (pos 0)) (i + 1)
quiet_on d i e k q =
    let D = drop (i + 6) d in
    let f : i + 1 + 6 ≡ i + 6 + 1 = omega arith in
    let g : i + 8 ≡ i + 6 + 1 + 1 = omega arith in
    let behind : drop (i + 6 + 1) (set d (i + 6) e) ≡ drop 1 D = drop-set-lt (i + 6 + 1) d (i + 6) e (omega arith) ∙ sym (drop-drop 1 (i + 6) d) in
    (λ j. take 2 (drop (f j) (set (set d (i + 6) e) (g j) (pos 0))))
    ∙ ap (take 2) (drop-set-add (i + 6 + 1) (set d (i + 6) e) 1 (pos 0))
    ∙ ap (λ (t : List ℤ). take 2 (set t 1 (pos 0))) behind
    ∙ take-suc-set (drop 1 D) 1 (pos 0) (simp (length-drop, length-drop) (omega arith))
    ∙ ap (λ (t : List ℤ). t ++ (pos 0 ∷ [])) (take_after 1 D ∙ ap (drop 1) q)
