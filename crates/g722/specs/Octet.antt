-- The octet H1 H2 L1..L6, first bit highest: IH above IL.
-- Assumes nothing.
use Rattle.std.specs.Prelude.{ℕ, ◌+◌, ◌*◌, ◌/◌, ◌%◌}

unfoldable pub octet : ℕ → ℕ → ℕ
octet ih il = ih * 64 + il

abbrev pub high_word : ℕ → ℕ
high_word o = o / 64

abbrev pub low_word : ℕ → ℕ
low_word o = o % 64
