-- A call's answer in one word of 64 bits: the number in bits 0 to 7, the index in bits 8 to 31, and the count in bits 32 to 63.
-- Assumes nothing.
use Rattle.std.specs.Prelude.{◌≡◌, ℕ, ◌+◌, ◌*◌, ◌/◌, ◌%◌, ◌<◌, ◌^◌}
use Rattle.std.proofs.Common.{arith}

unfoldable pub packed : ℕ → ℕ → ℕ → ℕ
packed number index limited = number + 2 ^ 8 * index + 2 ^ 32 * limited

-- the parts of a word, as a host takes them out
unfoldable pub number_in : ℕ → ℕ
number_in word = word % 2 ^ 8

unfoldable pub index_in : ℕ → ℕ
index_in word = word / 2 ^ 8 % 2 ^ 24

unfoldable pub limited_in : ℕ → ℕ
limited_in word = word / 2 ^ 32

-- THE LAW: the parts come back, and no bit is beyond the word
pub parts_back : (number index limited : ℕ) → number < 2 ^ 8 → index < 2 ^ 24 → limited < 2 ^ 32
    → let word = packed number index limited in
    (number_in word ≡ number) × (index_in word ≡ index) × (limited_in word ≡ limited) × (word < 2 ^ 64)
unfolding packed number_in index_in limited_in
parts_back number index limited h k l = (omega arith, omega arith, omega arith, omega arith)
