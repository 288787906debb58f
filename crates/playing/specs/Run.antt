-- Blocks played one after another: what each hears and leaves, as a run of the decoder from where the block starts.
-- Assumes nothing.
use Rattle.std.specs.Prelude.{◌≡◌, List, [], ◌∷◌, ◌++◌, ℕ, ◌*◌, ℤ}
use Rattle.std.proofs.Math.ListN.{take}
use Rattle.laws.specs.Outcome.{Outcome}
use Rattle.facts.specs.Told.{Told, marked}
use Rattle.block.specs.Calls.{read_call}
use Rattle.playing.specs.Play.{start_player, octets_in, play_call}
use Rattle.playing.specs.Answer.{Played}
use Rattle.playing.specs.declared.Player.{Player}

-- ---- block by block

-- a player, and the buffer that it is lent
pub record Playing : Type 0 where
  pub player : Player
  pub samples : List ℤ

-- before the first block
abbrev pub fresh : List ℤ → Playing
fresh samples = record { player = start_player; samples = samples }

-- a piece is played from there, and leaves it so
abbrev pub played : Playing → List ℕ → Outcome Played (List ℤ)
played p piece = play_call p.player piece p.samples

unfoldable pub onward : Playing → List ℕ → Playing
onward p piece = record { player = (played p piece).answer.next; samples = (played p piece).left }

-- every piece was played
unfoldable pub AllPlayed : Playing → List (List ℕ) → Type 0
AllPlayed p [] = Unit {0}
AllPlayed p (piece ∷ rest) = ((played p piece).answer.number ≡ 0) × AllPlayed (onward p piece) rest

-- the samples that each play leaves in front of the buffer, and what is kept after the last
unfoldable pub heard : Playing → List (List ℕ) → List ℤ
heard p [] = []
heard p (piece ∷ rest) = take (2 * (played p piece).answer.count) (played p piece).left ++ heard (onward p piece) rest

unfoldable pub after : Playing → List (List ℕ) → Playing
after p [] = p
after p (piece ∷ rest) = after (onward p piece) rest

-- the octets of a block, each with the mode of its block, and those of several
abbrev pub told : List ℕ → List Told
told piece = marked (read_call piece).mode (octets_in piece)

unfoldable pub all_told : List (List ℕ) → List Told
all_told [] = []
all_told (piece ∷ rest) = told piece ++ all_told rest
