-- The check of a logger block: a 16-bit register that starts at 65535, polynomial x^16 + x^12 + x^5 + 1, highest bit first, no reflection,
-- nothing added at the end.
-- Assumes nothing.
use Rattle.std.specs.Prelude.{◌≡◌, refl, cond, List, [], ◌∷◌, ℕ, zero, suc, ◌+◌, ◌*◌, ◌/◌, ◌%◌, ◌^◌, eqb}
use Rattle.std.specs.Int.Bits.{bit_xor}

-- the register moves up by one bit; where the bit that leaves it is 1, x^12 + x^5 + 1 comes in for it
unfoldable pub bit_step : ℕ → ℕ
bit_step reg = cond (eqb (reg / 32768) 1) (bit_xor (reg % 32768 * 2) (2 ^ 12 + 2 ^ 5 + 1)) (reg % 32768 * 2)

unfoldable pub bit_steps : ℕ → ℕ → ℕ
bit_steps zero reg = reg
bit_steps (suc k) reg = bit_steps k (bit_step reg)

-- a byte meets the upper half, and eight bits leave
unfoldable pub byte_step : ℕ → ℕ → ℕ
byte_step reg byte = bit_steps 8 (bit_xor reg (byte * 256))

unfoldable pub check_from : ℕ → List ℕ → ℕ
check_from reg [] = reg
check_from reg (byte ∷ rest) = check_from (byte_step reg byte) rest

unfoldable pub check : List ℕ → ℕ
check bytes = check_from 65535 bytes

-- the check of the nine digits "123456789" is 0x29B1, as catalogues of such checks print it
pub digits : check (49 ∷ 50 ∷ 51 ∷ 52 ∷ 53 ∷ 54 ∷ 55 ∷ 56 ∷ 57 ∷ []) ≡ 10673
unfolding check check_from byte_step bit_steps bit_step
digits = refl
