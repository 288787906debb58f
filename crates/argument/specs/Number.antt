-- The number that a word of decimal digits gives. One that is none below 2^32 counts as 2^32.
-- Assumes nothing.
use Rattle.std.specs.Prelude.{cond, List, [], ◌∷◌, ℕ, ◌+◌, ◌-◌, ◌*◌, ltb, eqb, length, Option, Some, None}

-- no number
abbrev pub none : ℕ
none = 4294967296

-- a number with one more digit behind it
unfoldable pub with : ℕ → ℕ → ℕ
with n byte =
    cond (ltb byte 48) none (cond (ltb 57 byte) none (cond (ltb none (10 * n + (byte - 48))) none (10 * n + (byte - 48))))

-- a number with all these digits behind it
unfoldable pub on : ℕ → List ℕ → ℕ
on n [] = n
on n (byte ∷ rest) = on (with n byte) rest

unfoldable pub number_of : List ℕ → ℕ
number_of word = cond (eqb (length word) 0) none (on 0 word)

-- the number as the code has it: one below 2^32, or none
unfoldable pub below : ℕ → Option ℕ
below n = cond (ltb n none) (Some n) None
