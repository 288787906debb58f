-- A recording, block after block.
-- Assumes nothing.
use Rattle.std.specs.Prelude.{Bool, true, false, cond, List, ℕ, ◌+◌, ◌*◌, eqb, ltb, leb, length, take, drop, Option, Some, None, Result}
use Rattle.g722.specs.declared.Refusal.{Refusal}
use Rattle.block.specs.Calls.{refused, read_call}
use Rattle.block.specs.Read.{BlockRead, read_as}
use Rattle.block.specs.declared.Header.{Header}
use Rattle.reader.specs.declared.Found.{Found}

-- what stands at a place, and the place from which the walk goes on
pub record Step : Type 0 where
  pub end : Bool
  pub block : BlockRead
  pub next : ℕ

-- the end is no block: it has a number that no block gives, be it read or refused, and the walk stays
abbrev pub ended : ℕ → Step
ended at = record { end = true; block = refused 255; next = at }

-- a block that was read or refused: the walk goes on past a good one, and stays at a refused one
unfoldable pub stood : BlockRead → ℕ → Step
stood b at = record { end = false; block = b; next = cond (eqb b.number 0) (at + 1) at }

-- block number `at`: the end where nothing is left, 6 where fewer than 512 bytes are, else what these 512 read as
unfoldable pub step_at : List ℕ → ℕ → Step
step_at s at =
    cond (leb (length s) (512 * at)) (ended at)
    (cond (ltb (length s) (512 * at + 512)) (stood (refused 6) at)
    (stood (read_call (take 512 (drop (512 * at) s))) at))

-- where the walk goes on from there
abbrev pub next_at : List ℕ → ℕ → ℕ
next_at s at = (step_at s at).next

-- what is found there, as a step
abbrev pub stop : Option (Result Header Refusal) → ℕ → Step
stop None at = ended at
stop (Some b) at = record { end = false; block = read_as b; next = at }

abbrev pub walked : Found → Step
walked f = stop f.block f.next
