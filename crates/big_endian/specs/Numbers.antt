-- Numbers from 0 up as two bytes and as four, the high byte first.
-- Assumes nothing.
use Rattle.std.specs.Prelude.{◌≡◌, refl, List, [], ◌∷◌, ℕ, zero, suc, ◌+◌, ◌*◌, ◌/◌, ◌%◌, ◌≤◌, ◌<◌, length, get_or}
use Rattle.std.proofs.Common.{arith, shr-shr}

-- a number as two bytes, and as four
abbrev pub two_bytes : ℕ → List ℕ
two_bytes n = (n / 256 % 256) ∷ (n % 256) ∷ []

abbrev pub four_bytes : ℕ → List ℕ
four_bytes n = (n / 16777216 % 256) ∷ (n / 65536 % 256) ∷ (n / 256 % 256) ∷ (n % 256) ∷ []

-- and read from byte i on; a byte beyond the end is 0
abbrev pub two_at : List ℕ → ℕ → ℕ
two_at b i = get_or b i 0 * 256 + get_or b (i + 1) 0

abbrev pub four_at : List ℕ → ℕ → ℕ
four_at b i = two_at b i * 65536 + two_at b (i + 2)

-- ---- beyond the end

pub beyond : (b : List ℕ) (i : ℕ) → length b ≤ i → get_or b i 0 ≡ 0
beyond [] i h = refl
beyond (x ∷ b) zero h = absurd (omega arith)
beyond (x ∷ b) (suc i) h = beyond b i (omega arith)

module _ (b : List ℕ) (i : ℕ) (h : length b ≤ i) where
  pub two_beyond : two_at b i ≡ 0
  two_beyond = omega (arith, beyond b i h, beyond b (i + 1) (omega arith))

  pub four_beyond : four_at b i ≡ 0
  four_beyond = omega (arith, two_beyond, beyond b (i + 2) (omega arith), beyond b (i + 2 + 1) (omega arith))

-- ---- a number from its bytes

spelt : (n a b c : ℕ) → n / 256 ≡ a → a / 256 ≡ b → b / 256 ≡ c → c < 256
    → (c % 256 * 256 + b % 256) * 65536 + (a % 256 * 256 + n % 256) ≡ n
spelt n a b c p q r h = omega arith

pub two_back : (n : ℕ) → n < 65536 → two_at (two_bytes n) 0 ≡ n
two_back n h = omega arith

pub four_back : (n : ℕ) → n < 4294967296 → four_at (four_bytes n) 0 ≡ n
four_back n h = spelt n (n / 256) (n / 65536) (n / 16777216) refl (shr-shr n 8 8) (shr-shr n 16 8) (omega arith)
