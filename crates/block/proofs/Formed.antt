-- What refusal 8 is given for, in plain orders and equations:
-- the modes are 1, 2 and 3, the counts 1 to 480, and the bytes that must be zero are.
-- Assumes nothing.
use Rattle.std.specs.Prelude.{◌≡◌, refl, true, ◌&&◌, List, [], ◌∷◌, ℕ, zero, suc, ◌+◌, ◌-◌, ◌≤◌, ◌<◌, eqb, leb, length, take, drop}
use Rattle.std.proofs.Math.Path.{sym, ap}
use Rattle.std.proofs.Common.{◌∙◌, le_of_suc-le-suc, not-suc-le-zero, length-drop, length-take-le, get_or-take, get_or-drop}
use Rattle.std.proofs.Math.Bool.{and-eq-true_iff}
use native.Mathlib.Omega.{arith}
use Rattle.std.proofs.Math.ListN.{get_or}
use borrow.Author.Tests.{eq-eqb, eqb-true, leb-true, le-leb}
use Rattle.big_endian.specs.Numbers.{two_at}
use Rattle.block.specs.Calls.{between, allowed, all_zero, well_formed}
use Rattle.block.specs.Formed.{Allowed, Formed}

module _ (mode count : ℕ) where
  pub allowed_bounds : allowed mode count ≡ true → Allowed mode count
  unfolding allowed between
  allowed_bounds e =
      let h = (and-eq-true_iff (between 1 3 mode) (between 1 480 count)).0 e in
      let m = (and-eq-true_iff (leb 1 mode) (leb mode 3)).0 h.0 in
      let c = (and-eq-true_iff (leb 1 count) (leb count 480)).0 h.1 in
      record {
        mode_least = leb-true 1 mode m.0;
        mode_most = leb-true mode 3 m.1;
        count_least = leb-true 1 count c.0;
        count_most = leb-true count 480 c.1;
      }

  pub allowed_within : Allowed mode count → allowed mode count ≡ true
  unfolding allowed between
  allowed_within a =
      rw (le-leb 1 mode a.mode_least, le-leb mode 3 a.mode_most, le-leb 1 count a.count_least, le-leb count 480 a.count_most)

-- ---- zeros

zero_at : (s : List ℕ) (i : ℕ) → all_zero s ≡ true → i < length s → get_or s i 0 ≡ 0
unfolding all_zero
zero_at [] i e h = absurd (not-suc-le-zero h)
zero_at (x ∷ rest) zero e h = eqb-true x 0 ((and-eq-true_iff (eqb x 0) (all_zero rest)).0 e).0
zero_at (x ∷ rest) (suc i) e h = zero_at rest i ((and-eq-true_iff (eqb x 0) (all_zero rest)).0 e).1 (le_of_suc-le-suc h)

zero_all : (s : List ℕ) → ((i : ℕ) → i < length s → get_or s i 0 ≡ 0) → all_zero s ≡ true
unfolding all_zero
zero_all [] f = refl
zero_all (x ∷ rest) f = rw (eq-eqb x 0 (f 0 (omega arith)), zero_all rest (λ i h. f (suc i) (omega arith)))

module _ (b : List ℕ) (size : length b ≡ 512) where
  -- the bytes after the octets up to 509
  abbrev rest : List ℕ
  rest = take (510 - (12 + two_at b 10)) (drop (12 + two_at b 10) b)

  rest_at : (j : ℕ) → j < 510 - (12 + two_at b 10) → get_or rest j 0 ≡ get_or b (12 + two_at b 10 + j) 0
  rest_at j h = get_or-take (510 - (12 + two_at b 10)) (drop (12 + two_at b 10) b) j 0 h ∙ get_or-drop (12 + two_at b 10) b j 0

  rest_length : two_at b 10 ≤ 480 → length rest ≡ 510 - (12 + two_at b 10)
  rest_length h = length-take-le (510 - (12 + two_at b 10)) (drop (12 + two_at b 10) b) (rw length-drop (omega arith))

  pub formed_bytes : well_formed b ≡ true → Formed b
  unfolding well_formed
  formed_bytes e =
      let h = (and-eq-true_iff (allowed (get_or b 8 0) (two_at b 10)) (eqb (get_or b 9 0) 0 && all_zero rest)).0 e in
      let k = (and-eq-true_iff (eqb (get_or b 9 0) 0) (all_zero rest)).0 h.1 in
      let a = allowed_bounds (get_or b 8 0) (two_at b 10) h.0 in
      let end = 12 + two_at b 10 in
      record {
        says = a;
        nine = eqb-true (get_or b 9 0) 0 k.0;
        behind = λ i l m.
            let same : end + (i - end) ≡ i = omega arith in
            ap (λ (j : ℕ). get_or b j 0) (sym same) ∙ sym (rest_at (i - end) (omega arith))
            ∙ zero_at rest (i - end) k.1 (rw (rest_length a.count_most) (omega arith));
      }

  pub formed_within : Formed b → well_formed b ≡ true
  unfolding well_formed
  formed_within f =
      let end = 12 + two_at b 10 in
      let n = rest_length f.says.count_most in
      let zeros = zero_all rest
      (λ j h. let l : j < 510 - end = omega arith in rest_at j l ∙ f.behind (end + j) (omega arith) (omega arith)) in
      rw (allowed_within (get_or b 8 0) (two_at b 10) f.says, eq-eqb (get_or b 9 0) 0 f.nine, zeros)
