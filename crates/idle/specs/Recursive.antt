-- The recursive part in 32 bits against the definitions: which of their stops are idle within the bounds of a good record.
-- Assumes nothing.
use Rattle.std.specs.Prelude.{◌≡◌, refl, Bool, true, false, not, ℕ, zero, suc, ◌+◌, ◌*◌, ◌/◌, ◌^◌, ◌≤◌, ◌<◌, ℤ, negsuc, neg_ℤ, nat_abs, ◌+ℤ◌, ◌-ℤ◌, ◌*ℤ◌, ◌≤ℤ◌}
use Rattle.std.proofs.Math.Path.{sym, ap}
use Rattle.std.proofs.Common.{◌∙◌, div-add-mod', mul-le-mul_left, arith}
use Rattle.std.proofs.Math.Bool.{cond}
use Rattle.std.proofs.Math.IntN.{pos}
use Rattle.std.specs.Int.Signed.{mag, lt_z, shr_z}
use Rattle.laws.specs.Both.{left_true, right_true}
use Rattle.laws.specs.Order.{up, dn, zarith, same, add_read, sub_read, sizes, by_test, up_neg, dn_neg}
use Rattle.laws.specs.Clamp.{clamp, clamp_id, clamp_low, clamp_mid, clamp_high, clamp_within}
use Rattle.laws.specs.Size.{abs_add, abs_sub, abs_mul, abs_neg}
use Rattle.g722.specs.Arithmetic.{neg, stop, add, sub, mul, negative, same_sign, within}
use Rattle.g722.specs.Within.{within_ends}
use Rattle.g722.specs.Band.{term, filtep, four, turned, uppol2, reach, uppol1, next_poles}
use Rattle.g722.specs.Records.{good_poles}
use Rattle.g722.specs.declared.Poles.{Poles}
use Rattle.idle.specs.declared.Recursive.{Recursive}

unfoldable pub poles_of : Recursive → Poles
poles_of w = record { a1 = w.a1; a2 = w.a2; r1 = stop w.r1; r2 = stop w.r2; p1 = stop w.p1; p2 = stop w.p2 }

-- the bounds of a good record, and what t1 and t2 are
pub record Fit (w : Recursive) : Type 0 where
  pub a1 : nat_abs w.a1 ≤ 27648
  pub a2 : nat_abs w.a2 ≤ 12288
  pub t1 : w.t1 ≡ stop (w.r1 +ℤ w.r1)
  pub t2 : w.t2 ≡ stop (w.r2 +ℤ w.r2)

-- each has them
pub fit_of : (w : Recursive) → Fit w
fit_of w = record { a1 = w.a1_bound; a2 = w.a2_bound; t1 = w.t1_is; t2 = w.t2_is }

-- ---- sizes

pub up_abs : (z : ℤ) → up z ≤ nat_abs z
up_abs (pos n) = omega arith
up_abs (negsuc n) = omega arith

pub dn_abs : (z : ℤ) → dn z ≤ nat_abs z
dn_abs (pos n) = omega arith
dn_abs (negsuc n) = omega arith

pub abs_from : (z : ℤ) (n : ℕ) → neg n ≤ℤ z → z ≤ℤ pos n → nat_abs z ≤ n
abs_from (pos m) n l h = omega (zarith)
abs_from (negsuc m) zero l h = omega (zarith)
abs_from (negsuc m) (suc n) l h = omega (zarith)

pub stop_abs : (z : ℤ) → nat_abs (stop z) ≤ 32768
stop_abs z = let w = clamp_within (neg 32768) (pos 32767) z (omega zarith) in abs_from (stop z) 32768 w.0 (omega (zarith, w.1))

pub stop_id : (z : ℤ) → nat_abs z ≤ 32767 → stop z ≡ z
stop_id z h = clamp_id (neg 32768) (pos 32767) z (omega (zarith, up_abs z, dn_abs z)) (omega (zarith, up_abs z, dn_abs z))

pub stop16 : (z : ℤ) → mag z < 2 ^ 15 → stop z ≡ z
stop16 z h = clamp_id (neg 32768) (pos 32767) z (omega (zarith, (sizes z).0, (sizes z).1)) (omega (zarith, (sizes z).0, (sizes z).1))

add_id : (a b : ℤ) → nat_abs a + nat_abs b ≤ 32767 → add a b ≡ a +ℤ b
unfolding add
add_id a b h = stop_id (a +ℤ b) (omega (arith, abs_add a b))

sub_id : (a b : ℤ) → nat_abs a + nat_abs b ≤ 32767 → sub a b ≡ a -ℤ b
unfolding sub
sub_id a b h = stop_id (a -ℤ b) (omega (arith, abs_sub a b))

pub shr_abs : (z : ℤ) (m : ℕ) → nat_abs z ≤ m * 32768 → nat_abs (shr_z z 32768) ≤ m
shr_abs (pos n) m h = omega (arith, div-add-mod' n 32768)
shr_abs (negsuc n) m h = omega (arith, div-add-mod' n 32768)

pub scaled_abs : (a b : ℤ) → nat_abs b ≤ 32768 → nat_abs (shr_z (a *ℤ b) 32768) ≤ nat_abs a
scaled_abs a b h = shr_abs (a *ℤ b) (nat_abs a) (omega (arith, abs_mul a b, mul-le-mul_left (nat_abs a) h))

mul_id : (a b : ℤ) → nat_abs a ≤ 32767 → nat_abs b ≤ 32768 → mul a b ≡ shr_z (a *ℤ b) 32768
unfolding mul
mul_id a b h k = stop_id (shr_z (a *ℤ b) 32768) (omega (arith, scaled_abs a b k))

-- ---- a stop keeps the sign, and a double after it is the double stopped

stop_sign : (z : ℤ) → negative (stop z) ≡ negative z
stop_sign z =
    by_test (lt_z z (neg 32768))
    (λ e. rw (clamp_low (neg 32768) (pos 32767) z e) (sym (omega (zarith, e))))
    (λ e. by_test (lt_z (pos 32767) z)
    (λ f. rw (clamp_high (neg 32768) (pos 32767) z e f) (sym (omega (zarith, f))))
    (λ f. rw (clamp_mid (neg 32768) (pos 32767) z e f)))

same_stop : (p q : ℤ) → same_sign (stop p) (stop q) ≡ same_sign p q
unfolding same_sign
same_stop p q = λ j. cond (stop_sign p j) (stop_sign q j) (not (stop_sign q j))

double : (r : ℤ) → add (stop r) (stop r) ≡ stop (r +ℤ r)
unfolding add clamp
double r =
    by_test (lt_z r (neg 32768))
    (λ e. rw (clamp_low (neg 32768) (pos 32767) r e) (sym (clamp_low (neg 32768) (pos 32767) (r +ℤ r) (omega (zarith, add_read r r)))))
    (λ e. by_test (lt_z (pos 32767) r)
    (λ f. rw (clamp_high (neg 32768) (pos 32767) r e f)
    (sym (clamp_high (neg 32768) (pos 32767) (r +ℤ r) (omega (zarith, add_read r r)) (omega (zarith, add_read r r)))))
    (λ f. rw (clamp_mid (neg 32768) (pos 32767) r e f)))

-- ---- FILTEP

term_is : (a r t : ℤ) → nat_abs a ≤ 32767 → t ≡ stop (r +ℤ r) → term a (stop r) ≡ shr_z (a *ℤ t) 32768
unfolding term
term_is a r t h e = ap (mul a) (double r ∙ sym e) ∙ mul_id a t h (rw e (stop_abs (r +ℤ r)))

pub filtep_is : (w : Recursive) → Fit w → stop (shr_z (w.a1 *ℤ w.t1) 32768 +ℤ shr_z (w.a2 *ℤ w.t2) 32768) ≡ filtep (poles_of w)
unfolding filtep poles_of add
filtep_is w f =
    let e1 = term_is w.a1 w.r1 w.t1 (omega (arith, f.a1)) f.t1 in
    let e2 = term_is w.a2 w.r2 w.t2 (omega (arith, f.a2)) f.t2 in
    sym (λ j. add (e1 j) (e2 j))

-- ---- UPPOL2 and UPPOL1

unfoldable pub turned_by : Bool → ℤ → ℤ
turned_by t a1 = shr_z (cond t (sub (pos 0) (four a1)) (four a1)) 128

abbrev fourfold : ℤ → ℤ
fourfold z = z +ℤ z +ℤ (z +ℤ z)

four_is : (a : ℤ) → four a ≡ stop (fourfold a)
unfolding four add
four_is a = double (a +ℤ a)

shifted : (z : ℤ) → shr_z (fourfold z) 128 ≡ shr_z z 32
shifted (pos n) = ap pos (omega arith)
shifted (negsuc n) = ap negsuc (omega arith)

-- the fourfold stopped at 16 bits and shifted by seven, or the number itself shifted by five and stopped at nine
short_is : (z : ℤ) → shr_z (stop (fourfold z)) 128 ≡ clamp (neg 256) (pos 255) (shr_z z 32)
short_is (pos n) =
    by_test (lt_z (pos 32767) (fourfold (pos n)))
    (λ f. rw (clamp_high (neg 32768) (pos 32767) (fourfold (pos n)) refl f)
    (sym (clamp_high (neg 256) (pos 255) (pos (n / 32)) refl (omega (zarith, f)))))
    (λ f. rw (
      clamp_mid (neg 32768) (pos 32767) (fourfold (pos n)) refl f,
      clamp_mid (neg 256) (pos 255) (pos (n / 32)) refl (omega (zarith, f)),
    )
    (shifted (pos n)))
short_is (negsuc n) =
    by_test (lt_z (fourfold (negsuc n)) (neg 32768))
    (λ e. rw (clamp_low (neg 32768) (pos 32767) (fourfold (negsuc n)) e)
    (sym (clamp_low (neg 256) (pos 255) (negsuc (n / 32)) (omega (zarith, e)))))
    (λ e. rw (
      clamp_mid (neg 32768) (pos 32767) (fourfold (negsuc n)) e refl,
      clamp_mid (neg 256) (pos 255) (negsuc (n / 32)) (omega (zarith, e)) refl,
    )
    (shifted (negsuc n)))

-- negated after a stop or before it: behind the shift there is no difference
negated : (f : ℤ) → shr_z (stop (pos 0 -ℤ stop f)) 128 ≡ shr_z (stop (pos 0 -ℤ f)) 128
unfolding clamp
negated f =
    let r = sub_read (pos 0) f in
    let g = pos 0 -ℤ f in
    by_test (lt_z f (neg 32768))
    (λ e. rw (clamp_low (neg 32768) (pos 32767) f e, clamp_high (neg 32768) (pos 32767) g (omega (zarith, r, e)) (omega (zarith, r, e))))
    (λ e. by_test (lt_z (pos 32767) f)
    (λ h. let k : stop g ≡ neg 32768 = by_test (lt_z g (neg 32768)) (clamp_low (neg 32768) (pos 32767) g)
    (λ l. clamp_mid (neg 32768) (pos 32767) g l (omega (zarith, r, h)) ∙ same g (neg 32768) (omega (zarith, r, h, l))) in
    rw (clamp_high (neg 32768) (pos 32767) f e h, k))
    (λ h. rw (clamp_mid (neg 32768) (pos 32767) f e h)))

minus_fourfold : (a : ℤ) → pos 0 -ℤ fourfold a ≡ fourfold (neg_ℤ a)
minus_fourfold a =
    let b = neg_ℤ a in
    omega (
      zarith,
      sub_read (pos 0) (fourfold a),
      add_read a a,
      add_read (a +ℤ a) (a +ℤ a),
      add_read b b,
      add_read (b +ℤ b) (b +ℤ b),
      up_neg a,
      dn_neg a,
    )

pub turned_is : (t : Bool) (a1 : ℤ) → clamp (neg 256) (pos 255) (shr_z (cond t (neg_ℤ a1) a1) 32) ≡ turned_by t a1
unfolding turned_by sub
turned_is true a1 =
    sym (ap (λ (z : ℤ). shr_z (stop (pos 0 -ℤ z)) 128) (four_is a1) ∙ negated (fourfold a1)
    ∙ ap (λ (z : ℤ). shr_z (stop z) 128) (minus_fourfold a1) ∙ short_is (neg_ℤ a1))
turned_is false a1 = sym (ap (λ (z : ℤ). shr_z z 128) (four_is a1) ∙ short_is a1)

pub turned_abs : (t : Bool) (a1 : ℤ) → nat_abs (turned_by t a1) ≤ 256
turned_abs t a1 =
    let z = shr_z (cond t (neg_ℤ a1) a1) 32 in
    let w = clamp_within (neg 256) (pos 255) z (omega zarith) in
    rw (sym (turned_is t a1)) (abs_from (clamp (neg 256) (pos 255) z) 256 w.0 (omega (zarith, w.1)))

unfoldable pub second_of : Bool → Bool → ℤ → ℤ → ℤ
second_of one two a1 a2 = clamp (neg 12288) (pos 12288) (add (add (turned_by one a1) (cond two (pos 128) (neg 128))) (mul a2 (pos 32512)))

unfoldable pub first_of : Bool → ℤ → ℤ → ℤ
first_of one a1 a2 = clamp (sub (pos 0) (reach a2)) (reach a2) (add (cond one (pos 192) (neg 192)) (mul a1 (pos 32640)))

pub step_abs : (t : Bool) (n : ℕ) → nat_abs (cond t (pos n) (neg n)) ≤ n
step_abs true n = omega arith
step_abs false n = omega (arith, abs_neg (pos n))

module _ (one two : Bool) (a1 a2 : ℤ) (h : nat_abs a1 ≤ 27648) (k : nat_abs a2 ≤ 12288) where
  pub second_is :
      clamp (neg 12288) (pos 12288) (turned_by one a1 +ℤ cond two (pos 128) (neg 128) +ℤ shr_z (a2 *ℤ pos 32512) 32768)
      ≡ second_of one two a1 a2
  unfolding second_of
  second_is =
      let t = turned_by one a1 in
      let c = cond two (pos 128) (neg 128) in
      let m = shr_z (a2 *ℤ pos 32512) 32768 in
      let ht = turned_abs one a1 in
      let hc = step_abs two 128 in
      let e : mul a2 (pos 32512) ≡ m = mul_id a2 (pos 32512) (omega arith) (omega arith) in
      sym (ap (clamp (neg 12288) (pos 12288)) (
      (λ j. add (add_id t c (omega arith) j) (e j))
      ∙ add_id (t +ℤ c) m (omega (arith, abs_add t c, scaled_abs a2 (pos 32512) (omega arith)))
      ))

  pub first_is :
      clamp (a2 -ℤ pos 15360) (pos 15360 -ℤ a2) (cond one (pos 192) (neg 192) +ℤ shr_z (a1 *ℤ pos 32640) 32768) ≡ first_of one a1 a2
  unfolding first_of reach
  first_is =
      let c = cond one (pos 192) (neg 192) in
      let m = shr_z (a1 *ℤ pos 32640) 32768 in
      let hc = step_abs one 192 in
      let hi = pos 15360 -ℤ a2 in
      let r : sub (pos 15360) a2 ≡ hi = sub_id (pos 15360) a2 (omega arith) in
      let s = sub_id (pos 0) hi (omega (arith, abs_sub (pos 15360) a2)) in
      let n : pos 0 -ℤ hi ≡ a2 -ℤ pos 15360 =
      omega (zarith, sub_read (pos 0) hi, sub_read (pos 15360) a2, sub_read a2 (pos 15360)) in
      let e = ap (add c) (mul_id a1 (pos 32640) (omega arith) (omega arith)) in
      let g = add_id c m (omega (arith, scaled_abs a1 (pos 32640) (omega arith))) in
      sym (λ j. clamp ((ap (sub (pos 0)) r ∙ s ∙ n) j) (r j) ((e ∙ g) j))

pub second_abs : (one two : Bool) (a1 a2 : ℤ) → nat_abs (second_of one two a1 a2) ≤ 12288
unfolding second_of
second_abs one two a1 a2 =
    let z = add (add (turned_by one a1) (cond two (pos 128) (neg 128))) (mul a2 (pos 32512)) in
    let w = clamp_within (neg 12288) (pos 12288) z (omega zarith) in
    abs_from (clamp (neg 12288) (pos 12288) z) 12288 w.0 w.1

-- ---- the next record

-- whatever the numbers are
pub next_of : (b1 b2 r1 r2 p1 p2 p r a1 a2 : ℤ)
    → a2 ≡ second_of (same_sign p p1) (same_sign p p2) b1 b2
    → a1 ≡ first_of (same_sign p p1) b1 a2
    → ◌≡◌ {A = Poles} (record { a1 = a1; a2 = a2; r1 = stop r; r2 = stop r1; p1 = stop p; p2 = stop p1 })
    (next_poles (record { a1 = b1; a2 = b2; r1 = stop r1; r2 = stop r2; p1 = stop p1; p2 = stop p2 }) (stop p) (stop r))
unfolding next_poles uppol1 uppol2 turned second_of first_of turned_by
next_of b1 b2 r1 r2 p1 p2 p r a1 a2 e f =
    let s : Poles = record { a1 = b1; a2 = b2; r1 = stop r1; r2 = stop r2; p1 = stop p1; p2 = stop p2 } in
    let one = sym (same_stop p p1) in
    let two = sym (same_stop p p2) in
    let g : a2 ≡ uppol2 s (stop p) = e ∙ (λ j. second_of (one j) (two j) b1 b2) in
    let h : a1 ≡ uppol1 s (uppol2 s (stop p)) (stop p) = f ∙ (λ j. first_of (one j) b1 (g j)) in
    λ j. record { a1 = h j; a2 = g j; r1 = stop r; r2 = stop r1; p1 = stop p; p2 = stop p1 }

pub next_is : (w : Recursive) (p r : ℤ) (a1 a2 : ℤ)
    → a2 ≡ second_of (same_sign p w.p1) (same_sign p w.p2) w.a1 w.a2
    → a1 ≡ first_of (same_sign p w.p1) w.a1 a2
    → ◌≡◌ {A = Poles} (record { a1 = a1; a2 = a2; r1 = stop r; r2 = stop w.r1; p1 = stop p; p2 = stop w.p1 })
    (next_poles (poles_of w) (stop p) (stop r))
unfolding poles_of
next_is w = next_of w.a1 w.a2 w.r1 w.r2 w.p1 w.p2

-- a good record has the bounds
pub good_bounds : (s : Poles) → good_poles s ≡ true → (nat_abs s.a1 ≤ 27648) × (nat_abs s.a2 ≤ 12288)
unfolding good_poles
good_bounds s g =
    let hi = pos 15360 -ℤ s.a2 in
    let two = within (neg 12288) (pos 12288) s.a2 in
    let one = within (neg_ℤ hi) hi s.a1 in
    let v = within_ends _ _ _ (left_true two one g) in
    let w = within_ends _ _ _ (right_true two one g) in
    let k = abs_from s.a2 12288 v.0 v.1 in
    let q = sub_read (pos 15360) s.a2 in
    let u = up_abs s.a2 in
    let d = dn_abs s.a2 in (
      abs_from s.a1 27648 (omega (zarith, w.0, up_neg hi, dn_neg hi)) (omega (zarith, w.1)),
      k,
    )
