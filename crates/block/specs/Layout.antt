-- The 512 bytes of a logger block. Numbers have the high byte first.
-- Assumes nothing.
use Rattle.std.specs.Prelude.{List, ◌∷◌, ◌++◌, ℕ, ◌+◌, ◌-◌, length, replicate}
use Rattle.big_endian.specs.Numbers.{two_bytes, four_bytes}
use Rattle.block.specs.Check.{check}

-- bytes 0 to 11: take number, block number, mode, zero, count
abbrev pub head : ℕ → ℕ → ℕ → ℕ → List ℕ
head take block mode count = four_bytes take ++ (four_bytes block ++ (mode ∷ 0 ∷ two_bytes count))

-- bytes 0 to 509: the head, the octets, zeros
unfoldable pub body : ℕ → ℕ → ℕ → List ℕ → List ℕ
body take block mode octets = head take block mode (length octets) ++ octets ++ replicate (510 - (12 + length octets)) 0

-- all 512: the body and its check
unfoldable pub block_of : ℕ → ℕ → ℕ → List ℕ → List ℕ
block_of take block mode octets = body take block mode octets ++ two_bytes (check (body take block mode octets))
