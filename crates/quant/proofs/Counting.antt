-- In levels that never fall, a count of those at or below a size may stop at the first level above it.
-- Assumes nothing.
use mathlib.Core.Path.{◌≡◌, refl, sym, subst, ◌∙◌}
use mathlib.Core.Bool.{true, false}
use mathlib.Core.List.{List, [], ◌∷◌, map}
use Prim.Native.Nat.{ℕ, zero, suc, ◌+◌, ◌*◌, ◌/◌, ◌≤◌, ◌<◌}
use native.Mathlib.Numerals.{add-one}
use native.Mathlib.Omega.{arith}
use lib.Dec.{T, ltb, lit<}
use lib.IntN.{ℤ, pos, negsuc, ◌*ℤ◌}
use lib.ListN.{get_or, drop, drop_of_length-le, get_or-map}
use lib.Signed.{lt_z, le_z, shr_z, ◌≤ℤ◌, le_z_yes}
use borrow.Author.Tests.{ltb-true, ltb-false, le-leb, lt-leb}
use mir.Syntax.{w16}
use mir.Val.{SFits}
use Rattle.laws.specs.Clamp.{clamp, clamp_mono}
use Rattle.laws.specs.Order.{zarith, by_test, no, false_from, shr_read, up_neg}
use Rattle.laws.specs.Rising.{Rising}
use Rattle.laws.specs.Turns.{drop_one}
use Rattle.g722.specs.Arithmetic.{neg, mul}
use Rattle.g722.specs.Tables.{q6}
use Rattle.g722.specs.Quantise.{level, at_or_below}
use Rattle.g722.specs.Checks.{levels_rise}
use Rattle.quant.specs.Unstopped.{unstopped}
use Rattle.quant.proofs.Laws.{eight_small}

-- the code asks whether a size is below a level, the definition whether the level is at or below the size
at_or_below_lem : (s : ℕ) (l : ℤ) → lt_z (pos s) l ≡ false → le_z l (pos s) ≡ true
at_or_below_lem s (pos n) e = le-leb n s (ltb-false s n e)
at_or_below_lem s (negsuc n) e = refl

above : (s : ℕ) (l : ℤ) → lt_z (pos s) l ≡ true → le_z l (pos s) ≡ false
above s (pos n) e = lt-leb n s (ltb-true s n e)
above s (negsuc n) e = no (sym e)

-- a level at or below is counted
pub counted : (s : ℕ) (l : ℤ) (ls : List ℤ) → lt_z (pos s) l ≡ false → at_or_below s (l ∷ ls) ≡ suc (at_or_below s ls)
unfolding at_or_below
counted s l ls e = rw (at_or_below_lem s l e)

-- one above is not
pub passed : (s : ℕ) (l : ℤ) (ls : List ℤ) → lt_z (pos s) l ≡ true → at_or_below s (l ∷ ls) ≡ at_or_below s ls
unfolding at_or_below
passed s l ls e = rw (above s l e)

-- nor is any that follows it
none : (s : ℕ) (l : ℤ) (ls : List ℤ) → Rising ◌≤ℤ◌ (l ∷ ls) → lt_z (pos s) l ≡ true → at_or_below s (l ∷ ls) ≡ 0
unfolding at_or_below
none s l [] r e = passed s l [] e
none s l (m ∷ ls) r e = passed s l (m ∷ ls) e ∙ none s m ls r.1 (omega (zarith, r.0))

-- the end of a rising list rises
rising_drop : {A : Type 0} (R : A → A → Type 0) (i : ℕ) (xs : List A) → Rising R xs → Rising R (drop i xs)
rising_drop R zero xs r = r
rising_drop R (suc i) [] r = tt
rising_drop R (suc i) (x ∷ []) r = rising_drop R i [] tt
rising_drop R (suc i) (x ∷ y ∷ xs) r = rising_drop R i (y ∷ xs) r.1

-- at a scale below 0 no level is above 0
low : (n q : ℕ) → level (negsuc n) q ≤ℤ pos 0
unfolding level mul clamp
low n q =
    let z = pos (q * 8) *ℤ negsuc n in
    clamp_mono (neg 32768) (pos 32767) (le_z_yes tt) (shr_z z 32768) (pos 0)
    (omega (zarith, shr_read z 32768 (lit< tt), up_neg (pos (q * 8 * suc n))))

-- a level is above a size exactly if q times the scale is not below 4096 times the size and one more
pub level_test : (s q : ℕ) (scale : ℤ) → q ≤ 4095 → SFits w16 scale
    → le_z (pos ((s + 1) * 4096)) (pos q *ℤ scale) ≡ lt_z (pos s) (level scale q)
unfolding level
level_test s q (pos n) h f =
    let m = q * 8 * n / 32768 in
    let r = (shr_read (pos (q * 8 * n)) 32768 (lit< tt)).0 in
    rw (unstopped (pos (q * 8)) (pos n) (eight_small q h) f) (
    by_test (ltb s m)
    (λ e. le-leb ((s + 1) * 4096) (q * n) (omega (arith, ltb-true s m e, r.0)) ∙ sym e)
    (λ e. lt-leb ((s + 1) * 4096) (q * n) (omega (arith, ltb-false s m e, r.1)) ∙ sym e))
level_test s q (negsuc n) h f =
    by_test (le_z (pos ((s + 1) * 4096)) (pos q *ℤ negsuc n))
    (λ e. let l : pos ((s + 1) * 4096) ≤ℤ (pos q *ℤ negsuc n) = le_z_yes (subst T (sym e) tt) in
    absurd (omega (zarith, l, up_neg (pos (q * suc n)))))
    (λ e. e ∙ sym (false_from (pos s) (level (negsuc n) q) (omega (zarith, low n q))))

-- ---- the 29 levels of the low band

abbrev pub levels : ℤ → List ℤ
levels scale = map (level scale) (drop 1 q6)

abbrev pub level_at : ℤ → ℕ → ℤ
level_at scale i = level scale (get_or (drop 1 q6) i 0)

-- before place i, in a search from the place a on: the levels there are all counted, and the count goes on from i
abbrev pub Counted : ℕ → ℕ → ℤ → ℕ → Type 0
Counted a s scale i = (i ≤ 29) × (a + at_or_below s (drop a (levels scale)) ≡ i + at_or_below s (drop i (levels scale)))

-- past the last level nothing is counted
none_past : (s i : ℕ) → 29 ≤ i → (scale : ℤ) → at_or_below s (drop i (levels scale)) ≡ 0
unfolding q6 at_or_below
none_past s i h scale = rw (drop_of_length-le (levels scale) h)

pub end : (a s i : ℕ) → 29 ≤ i → (scale : ℤ) → Counted a s scale i → 30 ≡ 1 + (a + at_or_below s (drop a (levels scale)))
end a s i h scale k = omega (arith, none_past s i h scale)

split : (i : ℕ) → i < 29 → (scale : ℤ) → drop i (levels scale) ≡ level_at scale i ∷ drop (i + 1) (levels scale)
unfolding q6
split i h scale = drop_one (levels scale) i (level scale 0) h ∙ rw (get_or-map (level scale) (drop 1 q6) i 0)

-- at place i: a level at or below is counted and the count goes on; at one above it ends
module _ (a s i : ℕ) (h : i < 29) where
  one_more : (scale : ℤ) → lt_z (pos s) (level_at scale i) ≡ false
      → at_or_below s (drop i (levels scale)) ≡ suc (at_or_below s (drop (i + 1) (levels scale)))
  one_more scale e = rw (split i h scale) (counted s _ _ e)

  none_left : (scale : ℤ) → lt_z (pos s) (level_at scale i) ≡ true → at_or_below s (drop i (levels scale)) ≡ 0
  none_left (pos n) e =
      let r = rising_drop ◌≤ℤ◌ i (levels (pos n)) (levels_rise n) in
      rw (split i h (pos n)) (none s _ _ (rw (split i h (pos n)) at r) e)
  none_left (negsuc n) e = absurd (omega (zarith, low n (get_or (drop 1 q6) i 0)))

  pub on : (scale : ℤ) → lt_z (pos s) (level_at scale i) ≡ false → Counted a s scale i → Counted a s scale (i + 1)
  on scale e k = (omega arith, omega (arith, one_more scale e))

  pub over : (scale : ℤ) → lt_z (pos s) (level_at scale i) ≡ true → Counted a s scale i
      → i + 1 ≡ 1 + (a + at_or_below s (drop a (levels scale)))
  over scale e k = omega (arith, none_left scale e)

-- a level at or below has none above the size before it
next : (i : ℕ) → i + 1 < 29 → (n : ℕ) → level_at (pos n) i ≤ℤ level_at (pos n) (i + 1)
next i h n =
    let k : i < 29 = omega arith in
    (rw (split i k (pos n), split (i + 1) h (pos n)) at (rising_drop ◌≤ℤ◌ i (levels (pos n)) (levels_rise n))).0

before : (s i : ℕ) → i + 1 < 29 → (scale : ℤ) → lt_z (pos s) (level_at scale (i + 1)) ≡ false → lt_z (pos s) (level_at scale i) ≡ false
before s i h (pos n) e = omega (zarith, next i h n)
before s i h (negsuc n) e = omega (zarith, low n (get_or (drop 1 q6) i 0))

up_to : (s i : ℕ) → i < 29 → (scale : ℤ) → lt_z (pos s) (level_at scale i) ≡ false → Counted 0 s scale (i + 1)
up_to s zero h scale e = on 0 s 0 h scale e (omega arith, refl)
up_to s (suc i) h scale e =
    on 0 s (suc i) h scale e (rw add-one at (up_to s i (omega arith) scale (before s i (rw add-one h) scale (rw add-one e))))

-- a size that is not below level k, counted from 1, has passed the first k levels, so a search may begin behind them
pub behind : (s k : ℕ) → k ≤ 29 → (scale : ℤ) → lt_z (pos s) (level scale (get_or q6 k 0)) ≡ false
    → 1 + (k + at_or_below s (drop k (levels scale))) ≡ 1 + at_or_below s (levels scale)
unfolding q6
behind s zero h scale e = omega arith
behind s (suc i) h scale e = let k = rw add-one at (up_to s i h scale e).1 in omega arith
