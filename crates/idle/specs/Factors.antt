-- The factors in 32 bits: what they stand for, and the next ones without the stop of LOGSCL and LOGSCH, which is idle before their limits.
-- Assumes nothing.
use Rattle.std.specs.Prelude.{◌≡◌, refl, Bool, true, false, cond, ◌+◌, ◌*◌, ◌/◌, ◌^◌, ◌≤◌, ◌<◌, T, ℤ, negsuc, nat_abs, ◌+ℤ◌, ◌*ℤ◌, ◌≤ℤ◌}
use Rattle.std.proofs.Math.Path.{sym, ap}
use Rattle.std.proofs.Common.{◌∙◌, add-zero, div-add-mod', arith}
use Rattle.std.proofs.Math.IntN.{pos}
use Rattle.std.specs.Int.Signed.{mag, lt_z, non_neg, shr_z}
use Rattle.laws.specs.Clamp.{clamp, clamp_low, clamp_mid, clamp_high, clamp_within}
use Rattle.laws.specs.Order.{zarith, by_test}
use Rattle.laws.specs.Size.{abs_mul, abs_mag}
use Rattle.g722.specs.Arithmetic.{neg, stop, add, mul}
use Rattle.g722.specs.Quantise.{logsc, scale_at, scalel, scaleh}
use Rattle.g722.specs.declared.Factors.{Factors}
use Rattle.idle.specs.Recursive.{stop_id, shr_abs}
use Rattle.idle.specs.declared.Scales.{Scales}

unfoldable pub factors_of : Scales → Factors
factors_of f = record { log = f.log; scale = f.scale }

-- both are numbers of 16 bits
pub record Held (f : Scales) : Type 0 where
  pub log : mag f.log < 2 ^ 15
  pub scale : mag f.scale < 2 ^ 15

pub held_of : (f : Scales) → Held f
held_of f = record { log = f.log_bound; scale = f.scale_bound }

-- the next factors of a band after a weight, low or high
abbrev pub top : Bool → ℤ
top high = cond high (pos 22528) (pos 18432)

unfoldable pub weighed : Bool → ℤ → Factors → Factors
weighed high w f =
    let log = logsc (top high) w f.log in
    record { log = log; scale = cond high (scaleh log) (scalel log) }

-- ---- the log factor

-- a limit makes the stop before it idle
limit_stop : (hi z : ℤ) → pos 0 ≤ℤ hi → hi ≤ℤ pos 32766 → clamp (pos 0) hi (stop z) ≡ clamp (pos 0) hi z
limit_stop hi z l h =
    by_test (lt_z z (neg 32768))
    (λ e. rw (clamp_low (neg 32768) (pos 32767) z e, clamp_low (pos 0) hi (neg 32768) (omega zarith))
    (sym (clamp_low (pos 0) hi z (omega zarith))))
    (λ e. by_test (lt_z (pos 32767) z)
    (λ f. rw (clamp_high (neg 32768) (pos 32767) z e f, clamp_high (pos 0) hi (pos 32767) (omega zarith) (omega zarith))
    (sym (clamp_high (pos 0) hi z (omega zarith) (omega zarith))))
    (λ f. rw (clamp_mid (neg 32768) (pos 32767) z e f)))

top_in : (high : Bool) → (pos 0 ≤ℤ top high) × (top high ≤ℤ pos 32766)
top_in true = (omega zarith, omega zarith)
top_in false = (omega zarith, omega zarith)

-- the product with 32512, and after its shift
module _ (nb : ℤ) (h : mag nb < 2 ^ 15) where
  pub product_abs : nat_abs (nb *ℤ pos 32512) ≤ 32512 * 32768
  product_abs = omega (arith, abs_mul nb (pos 32512), abs_mag nb)

  pub kept_abs : nat_abs (shr_z (nb *ℤ pos 32512) 32768) ≤ 32512
  kept_abs = shr_abs (nb *ℤ pos 32512) 32512 product_abs

  pub log_is : (high : Bool) (w : ℤ) → clamp (pos 0) (top high) (shr_z (nb *ℤ pos 32512) 32768 +ℤ w) ≡ logsc (top high) w nb
  unfolding logsc add mul
  log_is high w =
      let m = shr_z (nb *ℤ pos 32512) 32768 in
      let e : mul nb (pos 32512) ≡ m = stop_id m (omega (arith, kept_abs)) in
      sym (
      limit_stop (top high) (mul nb (pos 32512) +ℤ w) (top_in high).0 (top_in high).1
      ∙ ap (λ (p : ℤ). clamp (pos 0) (top high) (p +ℤ w)) e
      )

-- within its limits, so it has an address in ILA
pub record Address (high : Bool) (z : ℤ) : Type 0 where
  pub positive : T (non_neg z)
  pub size : nat_abs z ≤ 22528
  pub place : nat_abs z / 64 + cond high 0 64 ≤ 352
  pub scale : scale_at (nat_abs z / 64 + cond high 0 64) ≡ cond high (scaleh z) (scalel z)

address : (high : Bool) (z : ℤ) → pos 0 ≤ℤ z → z ≤ℤ top high → Address high z
unfolding scalel scaleh
address true (pos n) l h =
    let u : n ≤ 22528 = omega zarith in
    record { positive = tt; size = u; place = omega (arith, div-add-mod' n 64); scale = ap scale_at (add-zero (n / 64)) }
address false (pos n) l h =
    let u : n ≤ 18432 = omega zarith in
    record { positive = tt; size = omega arith; place = omega (arith, div-add-mod' n 64); scale = refl }
address high (negsuc n) l h = absurd l.le

pub log_address : (high : Bool) (w nb : ℤ) → Address high (logsc (top high) w nb)
unfolding logsc
log_address high w nb =
    let z = add (mul nb (pos 32512)) w in
    let d = clamp_within (pos 0) (top high) z (top_in high).0 in
    address high (clamp (pos 0) (top high) z) d.0 d.1
