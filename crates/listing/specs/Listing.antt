-- The listing of a recording: from its bytes to its lines (SCOPE, the listing).
-- Assumes nothing.
use Rattle.std.specs.Prelude.{cond, List, [], ◌∷◌, ℕ, zero, suc, ◌+◌, eqb, pos, length, take, drop, replicate}
use Rattle.playing.specs.Run.{Playing, fresh, played, onward}
use Rattle.listing.specs.Listed.{listed}

-- a recording in pieces of 512 bytes, of which the last may be shorter. So many turns are enough as there are bytes
unfoldable pub cut : ℕ → List ℕ → List (List ℕ)
cut zero bytes = []
cut (suc turns) bytes = cond (eqb (length bytes) 0) [] (take 512 bytes ∷ cut turns (drop 512 bytes))

unfoldable pub pieces : List ℕ → List (List ℕ)
pieces bytes = cut (length bytes) bytes

-- it begins with a player before its first block, and a buffer of 960 samples, cleared
unfoldable pub start : Playing
start = fresh (replicate 960 (pos 0))

-- a line for each block, after so many others; the first that is refused has its line too, and nothing comes after it
unfoldable pub lines_from : Playing → ℕ → List (List ℕ) → List (List ℕ)
lines_from p before [] = []
lines_from p before (piece ∷ rest) =
    listed (played p piece).answer before
    ∷ cond (eqb (played p piece).answer.number 0) (lines_from (onward p piece) (before + 1) rest) []

unfoldable pub listing : List ℕ → List (List ℕ)
listing bytes = lines_from start 0 (pieces bytes)
