-- The plain sum and the sum of its positive terms, term after term.
-- Assumes nothing.
use mathlib.Core.Path.{◌≡◌, refl, sym, ap, ◌∙◌}
use mathlib.Core.Bool.{Bool, ◌&&◌}
use mathlib.Core.List.{List, [], ◌∷◌}
use Prim.Native.Nat.{ℕ, zero, suc, ◌+◌, ◌*◌, ◌≤◌, ◌<◌}
use native.Mathlib.Numerals.{add-one}
use native.Mathlib.Omega.{arith}
use lib.Dec.{ltb}
use lib.IntN.{ℤ, pos, negsuc, nat_abs, ◌+ℤ◌, ◌-ℤ◌}
use lib.ListN.{length, take, get_or}
use lib.Seq.{take_all}
use lib.Signed.{lt_z}
use borrow.Author.Tests.{ltb-true, ltb-false, lt-ltb}
use mir.Syntax.{w32}
use mir.Val.{SFits}
use Rattle.std.specs.Int.{int_max}
use Rattle.laws.specs.Order.{up, dn, zarith, add_read, sub_read, by_test}
use Rattle.laws.specs.Size.{abs_add, abs_sub, fits_abs}
use Rattle.g722.specs.Arithmetic.{neg}
use Rattle.idle.specs.Plain.{ups, dns, fits, total, total_sides}

-- a term where it is positive, and 0 elsewhere
pub above : (z : ℤ) → int_max z (pos 0) ≡ pos (up z)
above (pos zero) = refl
above (pos (suc n)) = simp (lt-ltb 0 (suc n) (omega arith))
above (negsuc n) = refl

up_abs : (z : ℤ) → up z ≤ nat_abs z
up_abs (pos n) = omega arith
up_abs (negsuc n) = omega arith

ups_more : (ws : List ℤ) (i : ℕ) → i < length ws → ups (take (suc i) ws) ≡ ups (take i ws) + up (get_or ws i (pos 0))
unfolding ups
ups_more [] i h = absurd (omega arith)
ups_more (w ∷ ws) zero h = omega arith
ups_more (w ∷ ws) (suc i) h = omega (arith, ups_more ws i (omega arith))

dns_more : (ws : List ℤ) (i : ℕ) → i < length ws → dns (take (suc i) ws) ≡ dns (take i ws) + dn (get_or ws i (pos 0))
unfolding dns
dns_more [] i h = absurd (omega arith)
dns_more (w ∷ ws) zero h = omega arith
dns_more (w ∷ ws) (suc i) h = omega (arith, dns_more ws i (omega arith))

-- a is the plain sum of the first i terms, h the sum of the positive ones among them
pub record Adding (ws : List ℤ) (a h : ℤ) (i : ℕ) : Type 0 where
  pub high : h ≡ pos (ups (take i ws))
  pub all : up a + dns (take i ws) ≡ dn a + ups (take i ws)
  pub small : nat_abs a ≤ 32768 * i
  pub little : ups (take i ws) ≤ 32768 * i

pub none : (ws : List ℤ) → Adding ws (pos 0) (pos 0) 0
unfolding ups dns
none ws = record { high = refl; all = omega arith; small = omega arith; little = omega arith }

module _ {ws : List ℤ} {a h : ℤ} {i : ℕ} (e : Adding ws a h i) (w : ℤ) (s : nat_abs w ≤ 32768) (b : i < 8) where
  pub all_fits : SFits w32 (a +ℤ w)
  all_fits = fits_abs (omega (arith, abs_add a w, e.small))

  pub high_fits : SFits w32 (h +ℤ pos (up w))
  high_fits = rw e.high (fits_abs (omega (arith, e.little, up_abs w)))

  pub more : i < length ws → w ≡ get_or ws i (pos 0) → Adding ws (a +ℤ w) (h +ℤ pos (up w)) (i + 1)
  more l f =
      let u : ups (take (suc i) ws) ≡ ups (take i ws) + up w = rw f (ups_more ws i l) in
      let v : dns (take (suc i) ws) ≡ dns (take i ws) + dn w = rw f (dns_more ws i l) in
      rw add-one
      (record {
        high = rw e.high (ap pos (sym u));
        all = omega (arith, add_read a w, e.all);
        small = omega (arith, abs_add a w, e.small);
        little = omega (arith, e.little, up_abs w);
      })

pub end_small : {ws : List ℤ} {a h : ℤ} {i : ℕ} → Adding ws a h i → i ≤ 8 → nat_abs (a -ℤ h) ≤ 524288
end_small {ws} {a} {h} {i} e b = rw e.high (omega (arith, abs_sub a (pos (ups (take i ws))), e.small, e.little))

-- at the end: the plain sum of all, and both tests
module _ {ws : List ℤ} {a h : ℤ} {i : ℕ} (e : Adding ws a h i) (k : length ws ≤ i) where
  all_is : up a + dns ws ≡ dn a + ups ws
  all_is = rw (take_all i ws k) at e.all

  pub sum_is : a ≡ total ws
  sum_is = omega (zarith, all_is, total_sides ws)

  low_is : lt_z (neg 32769) (a -ℤ pos (ups ws)) ≡ ltb (dns ws) 32769
  low_is =
      by_test (ltb (dns ws) 32769)
      (λ f. omega (zarith, all_is, sub_read a (pos (ups ws)), ltb-true (dns ws) 32769 f) ∙ sym f)
      (λ f. omega (zarith, all_is, sub_read a (pos (ups ws)), ltb-false (dns ws) 32769 f) ∙ sym f)

  pub fits_is : (lt_z h (pos 32768) && lt_z (neg 32769) (a -ℤ h)) ≡ fits ws
  unfolding fits
  fits_is =
      let q : h ≡ pos (ups ws) = rw (take_all i ws k) at e.high in
      rw q (ap (λ (t : Bool). ltb (ups ws) 32768 && t) low_is)
