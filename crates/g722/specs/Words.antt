-- Tables 16 to 21 of G.722 (11/88), decided over ranges of the word (SCOPE 29 to 31). Checks.antt holds them against the tables as printed.
-- Assumes nothing.
use Rattle.std.specs.Prelude.{true, false, cond, ℕ, ◌-◌, ltb}
use Rattle.g722.specs.declared.Interval.{Interval}

-- SIL -1 and SIL 0, with an interval's number
abbrev pub minus : ℕ → Interval
minus m = record { negative = true; number = m }

abbrev pub plus : ℕ → Interval
plus m = record { negative = false; number = m }

-- Table 16: an interval to its 6-bit word
unfoldable pub to_six : Interval → ℕ
to_six v = cond v.negative (cond (ltb v.number 3) (64 - v.number) (34 - v.number)) (62 - v.number)

-- Table 17: a 4-bit word to its interval. 0000 is never sent
unfoldable pub from_four : ℕ → Interval
from_four w = cond (ltb w 1) (plus 0) (cond (ltb w 8) (minus (8 - w)) (plus (15 - w)))

-- Table 18: a 6-bit word. 000000 to 000011 are never sent
unfoldable pub from_six : ℕ → Interval
from_six w = cond (ltb w 4) (minus 1) (cond (ltb w 32) (minus (34 - w)) (cond (ltb w 62) (plus (62 - w)) (minus (64 - w))))

-- Table 19: a 5-bit word. 00000 and 00001 are never sent
unfoldable pub from_five : ℕ → Interval
from_five w = cond (ltb w 2) (minus 1) (cond (ltb w 16) (minus (17 - w)) (cond (ltb w 31) (plus (31 - w)) (minus (32 - w))))

-- Table 20: an interval of the high band to its 2-bit word
unfoldable pub to_two : Interval → ℕ
to_two v = cond v.negative (2 - v.number) (4 - v.number)

-- Table 21: and back
unfoldable pub from_two : ℕ → Interval
from_two w = cond (ltb w 2) (minus (2 - w)) (plus (4 - w))
