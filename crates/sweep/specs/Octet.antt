-- A band's word of an octet.
-- Assumes nothing.
use Rattle.std.specs.Prelude.{Bool, cond, ℕ, ◌/◌, ◌%◌}

-- the word of an octet in six bits. Of the high band's the upper four count, which are the octet's first two bits
unfoldable pub word_in : Bool → ℕ → ℕ
word_in high o = o / cond high 16 1 % 64
