-- ℤ for omega: z is `up z` less `dn z`, two numbers that omega takes as unknowns.
-- So orders, tests, sums and shifts on ℤ are linear facts on them.
-- `omega (zarith, add_read a b)` proves orders, tests and equations on ℤ; the sums that stand in them are listed beside the ruleset.
-- Assumes nothing.
use Rattle.std.specs.Prelude.{◌≡◌, refl, Bool, true, false, ℕ, zero, suc, ◌+◌, ◌*◌, ◌/◌, ◌≤◌, ◌<◌, T, ltb, ℤ, pos, negsuc, neg_ℤ, ◌+ℤ◌, ◌-ℤ◌, ◌≤ℤ◌}
use Rattle.std.proofs.Common.{sym, ap, subst, div-add-mod', mod-lt, suc-mul, arith, leb→le, le→leb, ltb-true, ltb-false}
use Rattle.std.proofs.Math.IntN.{sub_ℕ}
use Rattle.std.specs.Int.Signed.{mag, lt_z, le_z, shr_z}

abbrev pub up : ℤ → ℕ
up (pos n) = n
up (negsuc n) = 0

abbrev pub dn : ℤ → ℕ
dn (pos n) = 0
dn (negsuc n) = suc n

pub no : {X : Type 0} → true ≡ false → X
no e = absurd (subst T e tt)

pub by_test : (t : Bool) {X : Type 0} → (t ≡ true → X) → (t ≡ false → X) → X
by_test true f g = f refl
by_test false f g = g refl

-- ---- tests

pub test_true : (a b : ℤ) → lt_z a b ≡ true → up a + dn b < up b + dn a
test_true (pos a) (pos b) e = omega (arith, ltb-true a b e)
test_true (pos a) (negsuc b) e = no (sym e)
test_true (negsuc a) (pos b) e = omega arith
test_true (negsuc a) (negsuc b) e = omega (arith, ltb-true b a e)

pub test_false : (a b : ℤ) → lt_z a b ≡ false → up b + dn a ≤ up a + dn b
test_false (pos a) (pos b) e = omega (arith, ltb-false a b e)
test_false (pos a) (negsuc b) e = omega arith
test_false (negsuc a) (pos b) e = no e
test_false (negsuc a) (negsuc b) e = omega (arith, ltb-false b a e)

pub true_from : (a b : ℤ) → up a + dn b < up b + dn a → lt_z a b ≡ true
true_from a b h = by_test (lt_z a b) (λ e. e) (λ e. absurd (omega (arith, test_false a b e)))

pub false_from : (a b : ℤ) → up b + dn a ≤ up a + dn b → lt_z a b ≡ false
false_from a b h = by_test (lt_z a b) (λ e. absurd (omega (arith, test_true a b e))) (λ e. e)

-- ---- sums and negation

sub_read' : (a b : ℕ) → up (sub_ℕ a b) + b ≡ dn (sub_ℕ a b) + a
sub_read' a b =
    by_test (ltb a b) (λ e. let h = ltb-true a b e in rw e (omega arith)) (λ e. let h = ltb-false a b e in rw e (omega arith))

pub add_read : (a b : ℤ) → up (a +ℤ b) + dn a + dn b ≡ dn (a +ℤ b) + up a + up b
add_read (pos a) (pos b) = omega arith
add_read (pos a) (negsuc b) = omega (arith, sub_read' a (suc b))
add_read (negsuc a) (pos b) = omega (arith, sub_read' b (suc a))
add_read (negsuc a) (negsuc b) = omega arith

pub up_neg : (a : ℤ) → up (neg_ℤ a) ≡ dn a
up_neg (pos zero) = refl
up_neg (pos (suc n)) = refl
up_neg (negsuc n) = refl

pub dn_neg : (a : ℤ) → dn (neg_ℤ a) ≡ up a
dn_neg (pos zero) = refl
dn_neg (pos (suc n)) = refl
dn_neg (negsuc n) = refl

pub sub_read : (a b : ℤ) → up (a -ℤ b) + dn a + up b ≡ dn (a -ℤ b) + up a + dn b
sub_read a b = omega (arith, add_read a (neg_ℤ b), up_neg b, dn_neg b)

-- ---- orders and equations

le_read' : (a b : ℤ) → T (le_z a b) → up a + dn b ≤ up b + dn a
le_read' (pos a) (pos b) t = omega (arith, leb→le a b t)
le_read' (pos a) (negsuc b) t = absurd t
le_read' (negsuc a) (pos b) t = omega arith
le_read' (negsuc a) (negsuc b) t = omega (arith, leb→le b a t)

pub le_read : {a b : ℤ} → a ≤ℤ b → up a + dn b ≤ up b + dn a
le_read {a} {b} h = le_read' a b h.le

le_from' : (a b : ℤ) → up a + dn b ≤ up b + dn a → T (le_z a b)
le_from' (pos a) (pos b) h = le→leb a b (omega arith)
le_from' (pos a) (negsuc b) h = absurd (omega arith)
le_from' (negsuc a) (pos b) h = tt
le_from' (negsuc a) (negsuc b) h = le→leb b a (omega arith)

pub le_from : {a b : ℤ} → up a + dn b ≤ up b + dn a → a ≤ℤ b
le_from {a} {b} h = record { le = le_from' a b h }

pub eq_read : {a b : ℤ} → a ≡ b → up a + dn b ≡ up b + dn a
eq_read {a} {b} e = rw e (omega arith)

pub same : (a b : ℤ) → up a + dn b ≡ up b + dn a → a ≡ b
same (pos a) (pos b) e = ap pos (omega arith)
same (pos a) (negsuc b) e = absurd (omega arith)
same (negsuc a) (pos b) e = absurd (omega arith)
same (negsuc a) (negsuc b) e = ap negsuc (omega arith)

pub ruleset zarith = (arith, le_read, le_from, test_true, test_false, true_from, false_from, eq_read, same)

-- ---- sizes, and a shift that rounds down, by m = 2 ^ k

pub sizes : (z : ℤ) → (up z ≤ mag z) × (dn z ≤ mag z + 1)
sizes (pos n) = (omega arith, omega arith)
sizes (negsuc n) = (omega arith, omega arith)

pub size_within : (n : ℕ) (z : ℤ) → negsuc n ≤ℤ z → z ≤ℤ pos n → mag z ≤ n
size_within n (pos m) l h = omega (arith, le_read h)
size_within n (negsuc m) l h = omega (arith, le_read l)

quot : (a m : ℕ) → 0 < m → (a / m * m ≤ a) × (a < a / m * m + m)
quot a m h = let e = div-add-mod' a m in let l = mod-lt a h in (omega arith, omega arith)

pub shr_read : (z : ℤ) (m : ℕ) → 0 < m
    → ((up (shr_z z m) * m ≤ up z) × (up z < up (shr_z z m) * m + m)) × ((dn z ≤ dn (shr_z z m) * m) × (dn (shr_z z m) * m < dn z + m))
shr_read (pos a) m h = let q = quot a m h in ((q.0, q.1), (omega arith, omega arith))
shr_read (negsuc a) m h = let q = quot a m h in let e = suc-mul (a / m) m in ((omega arith, omega arith), (omega arith, omega arith))
