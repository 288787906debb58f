-- What refusal 8 is given for, in plain orders and equations:
-- the modes are 1, 2 and 3, the counts 1 to 480, and the bytes that must be zero are.
-- Assumes nothing.
use Rattle.std.specs.Prelude.{◌≡◌, List, ℕ, ◌+◌, ◌≤◌, ◌<◌}
use Rattle.std.proofs.Math.ListN.{get_or}
use Rattle.big_endian.specs.Numbers.{two_at}

-- ---- a mode and a count

pub record Allowed (mode count : ℕ) : Type 0 where
  pub mode_least : 1 ≤ mode
  pub mode_most : mode ≤ 3
  pub count_least : 1 ≤ count
  pub count_most : count ≤ 480

-- ---- a block of 512 bytes

pub record Formed (b : List ℕ) : Type 0 where
  pub says : Allowed (get_or b 8 0) (two_at b 10)
  pub nine : get_or b 9 0 ≡ 0
  pub behind : (i : ℕ) → 12 + two_at b 10 ≤ i → i < 510 → get_or b i 0 ≡ 0
