-- What is said of a block that reads well: it depends on the record that the block starts from, and not on what stood in the buffer.
-- Assumes nothing.
use Rattle.std.specs.Prelude.{◌≡◌, List, ◌++◌, ℕ, ◌-◌, ◌*◌, ◌<◌, ℤ, pos, get_or, drop}
use Rattle.std.proofs.Math.Path.{ap}
use Rattle.std.proofs.Common.{◌∙◌, arith}
use Rattle.std.proofs.Math.ListN.{get_or-append}
use Rattle.laws.specs.Outcome.{Outcome}
use Rattle.g722.specs.Decoding.{samples_of, decoded}
use Rattle.g722.specs.declared.Decoder.{Decoder}
use Rattle.facts.specs.Told.{samples_length}
use Rattle.block.specs.Calls.{read_call}
use Rattle.playing.specs.Play.{decoder_for, octets_in, reported}
use Rattle.playing.proofs.PlayCalls.{octets_length, read_bounds, play_done}
use Rattle.playing.specs.Run.{Playing, played, onward}
use Rattle.playing.proofs.Enough.{Ready, fits}
use Rattle.playing.specs.Answer.{Played}

-- the samples of a block, from a record
abbrev pub samples_in : Decoder → List ℕ → List ℤ
samples_in d piece = samples_of (read_call piece).mode d (octets_in piece)

abbrev pub said : Decoder → List ℕ → Played
said d piece = reported (read_call piece) (decoded (read_call piece).mode d (octets_in piece)).answer (samples_in d piece)

module _ (p : Playing) (piece : List ℕ) (z : (read_call piece).number ≡ 0) (r : Ready p) where
  abbrev from : Decoder
  from = decoder_for p.player (read_call piece)

  -- a sample of the block stands in front of the buffer's rest
  in_front_lem : (i : ℕ) → i < 2 * (read_call piece).count
      → get_or (samples_in from piece ++ drop (2 * (read_call piece).count) p.samples) i (pos 0) ≡ get_or (samples_in from piece) i (pos 0)
  in_front_lem i h =
      let n = samples_length (read_call piece).mode from (octets_in piece) in
      let m = octets_length piece z in
      get_or-append (samples_in from piece) _ (pos 0) i (omega arith)

  pub is_said : (played p piece).answer ≡ said from piece
  unfolding reported decoded
  is_said =
      let some = (read_bounds piece z).says.count_least in
      ap (λ (x : Outcome Played (List ℤ)). x.answer) (play_done p.player piece p.samples z (fits p piece z r) r.sound)
      ∙ rw (in_front_lem 0 (omega arith), in_front_lem (2 * (read_call piece).count - 1) (omega arith))

  pub next_said : (onward p piece).player ≡ (said from piece).next
  unfolding onward
  next_said = ap (λ (x : Played). x.next) is_said
