-- Blocks that read well are all played: a block's count fits a buffer of 960 samples, and a play keeps the buffer's length. So a
-- recording is what its takes are, each alone.
-- Assumes nothing.
use Rattle.std.specs.Prelude.{◌≡◌, refl, true, ℕ, ◌*◌, ◌≤◌, ℤ, drop}
use Rattle.std.proofs.Math.Path.{ap}
use Rattle.std.proofs.Common.{◌∙◌, arith}
use mathlib.Core.List.{List, [], ◌∷◌, append-nil, flat_map}
use Rattle.std.proofs.Math.ListN.{length, length-append, length-drop}
use Rattle.laws.specs.Outcome.{Outcome}
use Rattle.g722.specs.Records.{good_decoder, reset_decoder}
use Rattle.g722.specs.Decoding.{samples_of}
use Rattle.block.specs.Calls.{read_call}
use Rattle.playing.specs.Answer.{Played}
use Rattle.playing.specs.Play.{start_player, afresh, decoder_for, octets_in}
use Rattle.playing.proofs.PlayCalls.{octets_length, read_bounds, start_good, play_done}
use Rattle.facts.specs.Told.{decoder_run, samples_run, samples_length}
use Rattle.facts.specs.Good.{decoder_run_good, decoder_reset_good}
use Rattle.playing.specs.Run.{Playing, fresh, played, onward, AllPlayed, heard, after, all_told}
use Rattle.playing.specs.Takes.{takes, heard_alone, left_by, GoOn}
use Rattle.playing.proofs.Takes.{all_alone, samples_by_takes, record_by_takes, one_take}

-- every piece reads well
unfoldable pub AllRead : List (List ℕ) → Type 0
AllRead [] = Unit {0}
AllRead (piece ∷ rest) = ((read_call piece).number ≡ 0) × AllRead rest

-- a player with a good record and room for any block
pub record Ready (p : Playing) : Type 0 where
  pub sound : good_decoder p.player.decoder ≡ true
  pub room : 960 ≤ length p.samples

module _ (p : Playing) (piece : List ℕ) (z : (read_call piece).number ≡ 0) (r : Ready p) where
  abbrev mode : ℕ
  mode = (read_call piece).mode

  pub fits : 2 * (read_call piece).count ≤ length p.samples
  fits = omega (arith, (read_bounds piece z).says.count_most, r.room)

  pub is_played : (played p piece).answer.number ≡ 0
  is_played = ap (λ (x : Outcome Played (List ℤ)). x.answer.number) (play_done p.player piece p.samples z fits r.sound)

  pub stays_ready : Ready (onward p piece)
  unfolding onward
  stays_ready =
      let done = play_done p.player piece p.samples z fits r.sound in
      let from = decoder_for p.player (read_call piece) in
      let heard = samples_of mode from (octets_in piece) in
      let n = samples_length mode from (octets_in piece) in
      let m = octets_length piece z in
      let l = length-append heard (drop (2 * (read_call piece).count) p.samples) in
      let k = length-drop (2 * (read_call piece).count) p.samples in
      let same = ap (λ (x : Outcome Played (List ℤ)). length x.left) done in
      record {
        sound = ap (λ (x : Outcome Played (List ℤ)). good_decoder x.answer.next.decoder) done
            ∙ decoder_run_good mode from (octets_in piece) (start_good p.player (read_call piece) r.sound);
        room = omega (arith, fits, r.room);
      }

pub all_played : (p : Playing) (pieces : List (List ℕ)) → Ready p → AllRead pieces → AllPlayed p pieces
unfolding AllRead AllPlayed
all_played p [] r a = tt
all_played p (piece ∷ rest) r a = (is_played p piece a.0 r, all_played (onward p piece) rest (stays_ready p piece a.0 r) a.1)

-- after blocks that read well it is ready for more
pub ready_after : (p : Playing) (pieces : List (List ℕ)) → Ready p → AllRead pieces → Ready (after p pieces)
unfolding after AllRead
ready_after p [] r a = r
ready_after p (piece ∷ rest) r a = ready_after (onward p piece) rest (stays_ready p piece a.0 r) a.1

-- ---- from the start of a recording

module _ (samples : List ℤ) (room : 960 ≤ length samples) where
  pub fresh_ready : Ready (fresh samples)
  unfolding start_player
  fresh_ready = record { sound = decoder_reset_good; room = room }

  -- nothing but reading refuses a block of a recording
  pub read_is_played : (pieces : List (List ℕ)) → AllRead pieces → AllPlayed (fresh samples) pieces
  read_is_played pieces = all_played (fresh samples) pieces fresh_ready

  -- THE THEOREM. Blocks that read well give, take by take, the samples of that take decoded alone from reset; the record is the last's
  pub read_by_takes : (pieces : List (List ℕ)) → AllRead pieces
      → (heard (fresh samples) pieces ≡ flat_map heard_alone (takes pieces))
      × ((after (fresh samples) pieces).player.decoder ≡ left_by reset_decoder (takes pieces))
  unfolding start_player decoder_for afresh heard after left_by takes flat_map
  read_by_takes [] read = (refl, refl)
  read_by_takes (piece ∷ rest) read =
      let played = read_is_played (piece ∷ rest) read in (
        samples_by_takes (fresh samples) piece rest played ∙ all_alone (takes (piece ∷ rest)),
        record_by_takes (fresh samples) piece rest played,
      )

  -- one take, then, is one run
  pub one_take_is_one_run : (piece : List ℕ) (rest : List (List ℕ)) → AllRead (piece ∷ rest) → GoOn (read_call piece).take rest
      → (heard (fresh samples) (piece ∷ rest) ≡ samples_run reset_decoder (all_told (piece ∷ rest)))
      × ((after (fresh samples) (piece ∷ rest)).player.decoder ≡ decoder_run reset_decoder (all_told (piece ∷ rest)))
  unfolding left_by flat_map
  one_take_is_one_run piece rest read on =
      let all = rw (one_take piece rest on) at (read_by_takes (piece ∷ rest) read) in
      (all.0 ∙ append-nil (heard_alone (piece ∷ rest)), all.1)
