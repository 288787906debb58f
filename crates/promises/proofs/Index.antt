-- Refusal 4 has the index of the first that is out of range: of a sample in coding, of a pair in decoding's second step.
-- Assumes nothing.
use Rattle.std.specs.Prelude.{◌≡◌, true, false, ◌&&◌, List, ℕ, ◌<◌, ℤ, pos, length, take, get_or}
use Rattle.g722.specs.Records.{in_range, all_in_range}

-- the pair at i is the first of which one is out of range
pub record FirstBadAt (i : ℕ) (low high : List ℤ) : Type 0 where
  pub there : i < length low
  pub low_before : all_in_range (take i low) ≡ true
  pub high_before : all_in_range (take i high) ≡ true
  pub bad : (in_range (get_or low i (pos 0)) && in_range (get_or high i (pos 0))) ≡ false
