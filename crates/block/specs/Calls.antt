-- Writing a block and reading one, with their refusals.
-- Assumes nothing.
use Rattle.std.specs.Prelude.{Bool, true, cond, not, ◌&&◌, List, [], ◌∷◌, ℕ, ◌+◌, ◌-◌, eqb, leb, length, get_or, take, drop}
use Rattle.laws.specs.Outcome.{Outcome}
use Rattle.g722.specs.Answers.{Moved}
use Rattle.block.specs.Check.{check}
use Rattle.big_endian.specs.Numbers.{two_at, four_at}
use Rattle.block.specs.Layout.{block_of}
use Rattle.block.specs.Read.{BlockRead}

unfoldable pub between : ℕ → ℕ → ℕ → Bool
between lo hi x = leb lo x && leb x hi

-- mode 1, 2 or 3, and 1 to 480 octets
unfoldable pub allowed : ℕ → ℕ → Bool
allowed mode count = between 1 3 mode && between 1 480 count

-- writing has no index to give
abbrev pub numbered : ℕ → Moved
numbered number = record { number = number; index = 0 }

-- a refused write leaves the lent bytes as they came
unfoldable pub not_written : ℕ → List ℕ → Outcome Moved (List ℕ)
not_written number lent = record { answer = numbered number; left = lent }

-- writing: 6, then 8
unfoldable pub write_call : ℕ → ℕ → ℕ → List ℕ → List ℕ → Outcome Moved (List ℕ)
write_call take block mode octets lent =
    cond (not (eqb (length lent) 512)) (not_written 6 lent)
    (cond (not (allowed mode (length octets))) (not_written 8 lent)
    (record { answer = numbered 0; left = block_of take block mode octets }))

unfoldable pub all_zero : List ℕ → Bool
all_zero [] = true
all_zero (x ∷ rest) = eqb x 0 && all_zero rest

-- the mode and the count are allowed, byte 9 is zero, and so is every byte after the octets up to 509
unfoldable pub well_formed : List ℕ → Bool
well_formed b =
    allowed (get_or b 8 0) (two_at b 10)
    && (eqb (get_or b 9 0) 0 && all_zero (take (510 - (12 + two_at b 10)) (drop (12 + two_at b 10) b)))

-- a refusal has 0 in every other field
abbrev pub refused : ℕ → BlockRead
refused number = record { number = number; index = 0; take = 0; block = 0; mode = 0; count = 0 }

-- reading: 6, then 7, then 8
unfoldable pub read_call : List ℕ → BlockRead
read_call b =
    cond (not (eqb (length b) 512)) (refused 6)
    (cond (not (eqb (check (take 510 b)) (two_at b 510))) (refused 7)
    (cond (not (well_formed b)) (refused 8)
    (record { number = 0; index = 0; take = four_at b 0; block = four_at b 4; mode = get_or b 8 0; count = two_at b 10 })))
