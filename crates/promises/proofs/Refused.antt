-- A refused call changes nothing and counts nothing, and only number 4 has an index: of each call on a record and on data.
-- Assumes nothing.
use Rattle.std.specs.Prelude.{◌≡◌, ℕ}

-- what is so beside every number: any but 0 gives back what was handed in as it came and has count 0, and any but 4 has index 0
pub record Beside (number index limited : ℕ) {X : Type 0} (back came : X) : Type 0 where
  pub kept : (number ≡ 0 → ⊥) → back ≡ came
  pub dark : (number ≡ 0 → ⊥) → limited ≡ 0
  pub plain : (number ≡ 4 → ⊥) → index ≡ 0
