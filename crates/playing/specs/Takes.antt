-- A recording take by take: its blocks, played one after another, give the samples of each take decoded alone from reset.
-- Assumes nothing.
use Rattle.std.specs.Prelude.{◌≡◌, Bool, false, cond, not, ℕ, ℤ}
use mathlib.Core.List.{List, [], ◌∷◌, ◌++◌, flat_map}
use Rattle.g722.specs.Records.{reset_decoder}
use Rattle.g722.specs.declared.Decoder.{Decoder}
use Rattle.facts.specs.Told.{decoder_run, samples_run}
use Rattle.block.specs.Calls.{read_call}
use Rattle.playing.specs.Play.{begins}
use Rattle.playing.specs.Run.{all_told}

-- ---- the takes of a recording

-- whether the take of a block goes on after it
unfoldable pub goes_on : List ℕ → List (List ℕ) → Bool
goes_on piece [] = false
goes_on piece (next ∷ rest) = not (begins (read_call piece).take (read_call next))

-- a block put in front of the first take
unfoldable pub in_front : List ℕ → List (List (List ℕ)) → List (List (List ℕ))
in_front piece [] = (piece ∷ []) ∷ []
in_front piece (first ∷ others) = (piece ∷ first) ∷ others

-- the recording, cut before each block that begins a take
unfoldable pub takes : List (List ℕ) → List (List (List ℕ))
takes [] = []
takes (piece ∷ rest) = cond (goes_on piece rest) (in_front piece (takes rest)) ((piece ∷ []) ∷ takes rest)

-- ---- each decoded alone

-- the samples of a take alone, from reset
abbrev pub heard_alone : List (List ℕ) → List ℤ
heard_alone blocks = samples_run reset_decoder (all_told blocks)

-- the samples of takes, the first from a record, each other alone
unfoldable pub heard_in : Decoder → List (List (List ℕ)) → List ℤ
heard_in d [] = []
heard_in d (first ∷ others) = samples_run d (all_told first) ++ flat_map heard_alone others

-- the record after the last
unfoldable pub left_by : Decoder → List (List (List ℕ)) → Decoder
left_by d [] = d
left_by d (only ∷ []) = decoder_run d (all_told only)
left_by d (first ∷ second ∷ others) = left_by reset_decoder (second ∷ others)

-- ---- one take

-- blocks that go on with a take: each is of that take, and none is numbered 0
unfoldable pub GoOn : ℕ → List (List ℕ) → Type 0
GoOn number [] = Unit {0}
GoOn number (piece ∷ rest) = ((read_call piece).take ≡ number) × ((read_call piece).block ≡ 0 → ⊥) × GoOn number rest
