-- Exclusive or, beyond the kit's laws: grouping, undoing, doubling.
-- Assumes nothing.
use Rattle.std.specs.Prelude.{◌≡◌, refl, Bool, ℕ, ◌+◌, ◌*◌, ◌/◌, ◌%◌, ◌^◌, ◌<◌, eqb}
use Rattle.std.proofs.Common.{sym, ap, ap₂, ◌∙◌, arith, eqb→eq, lit<}
use Rattle.std.proofs.Math.Arith.{bin_ind}
use Rattle.std.specs.Int.Bits.{bit_xor, xor_self, xor_zero_r}
use Rattle.std.proofs.lemmas.Nat.{xor_shr, xor_mod, xor_block}
use Rattle.laws.specs.Every.{below, below_at}

half : (a b : ℕ) → bit_xor a b / 2 ≡ bit_xor (a / 2) (b / 2)
half a b = xor_shr a b 1

pub xor_odd : (a b : ℕ) → bit_xor a b % 2 ≡ bit_xor (a % 2) (b % 2)
xor_odd a b = xor_mod a b 1

-- three bits, by the eight cases
abbrev grouped : ℕ → ℕ → ℕ → Bool
grouped x y z = eqb (bit_xor (bit_xor x y) z) (bit_xor x (bit_xor y z))

bits_assoc : (x y z : ℕ) → x < 2 → y < 2 → z < 2 → bit_xor (bit_xor x y) z ≡ bit_xor x (bit_xor y z)
bits_assoc x y z hx hy hz =
    let all = below_at 2 (λ a. below 2 (λ b. below 2 (grouped a b))) tt x hx in
    eqb→eq _ _ (below_at 2 (grouped x y) (below_at 2 (λ b. below 2 (grouped x b)) all y hy) z hz)

same_digits : (a b : ℕ) → a / 2 ≡ b / 2 → a % 2 ≡ b % 2 → a ≡ b
same_digits a b e f = omega arith

pub xor_assoc : (a b c : ℕ) → bit_xor (bit_xor a b) c ≡ bit_xor a (bit_xor b c)
xor_assoc =
    bin_ind (λ (n : ℕ). (b c : ℕ) → bit_xor (bit_xor n b) c ≡ bit_xor n (bit_xor b c)) (λ b c. refl)
    (λ n ih b c. same_digits _ _ (simp half (ih (b / 2) (c / 2)))
    (simp xor_odd (bits_assoc (n % 2) (b % 2) (c % 2) (omega arith) (omega arith) (omega arith))))

-- what went in twice is out again
pub xor_twice : (a b : ℕ) → bit_xor (bit_xor a b) b ≡ a
xor_twice a b = xor_assoc a b b ∙ ap (bit_xor a) (xor_self b) ∙ xor_zero_r a

even : (n : ℕ) → n * 2 ≡ n * 2 ^ 1 + 0
even n = omega arith

pub xor_double : (a b : ℕ) → bit_xor a b * 2 ≡ bit_xor (a * 2) (b * 2)
xor_double a b = even (bit_xor a b) ∙ sym (ap₂ bit_xor (even a) (even b) ∙ xor_block 1 a b 0 0 (lit< tt) (lit< tt))
