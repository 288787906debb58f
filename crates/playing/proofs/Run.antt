-- Blocks played one after another: what each hears and leaves, as a run of the decoder from where the block starts.
-- Assumes nothing.
use Rattle.std.specs.Prelude.{◌≡◌, true, List, ℕ, ◌*◌, ℤ, length}
use Rattle.std.proofs.Math.Path.{ap}
use Rattle.std.proofs.Common.{◌∙◌, take_at}
use Rattle.std.proofs.Math.ListN.{take}
use Rattle.laws.specs.Outcome.{Outcome}
use Rattle.g722.specs.Arithmetic.{overloads}
use Rattle.g722.specs.Decoding.{samples_in_full, samples_of}
use Rattle.g722.specs.declared.Decoder.{Decoder}
use Rattle.facts.specs.Told.{decoder_run, samples_run, decoder_run_lem, samples_run_lem, samples_length}
use Rattle.block.specs.Calls.{read_call}
use Rattle.playing.specs.Play.{decoder_for, octets_in}
use Rattle.playing.proofs.PlayCalls.{octets_length, play_heard, play_done}
use Rattle.playing.specs.Answer.{Played}
use Rattle.playing.specs.Run.{Playing, played, onward, told}

-- ---- a block that was played is a run from where it starts

module _ (p : Playing) (piece : List ℕ) (z : (played p piece).answer.number ≡ 0) where
  abbrev from : Decoder
  from = decoder_for p.player (read_call piece)

  pub next_is : (onward p piece).player ≡ record { decoder = decoder_run from (told piece); begun = true; take = (read_call piece).take }
  unfolding onward
  next_is =
      let h = play_heard p.player piece p.samples z in
      ap (λ (x : Outcome Played (List ℤ)). x.answer.next) (play_done p.player piece p.samples h.read h.room h.sound)
      ∙ ap (λ (d : Decoder). record { decoder = d; begun = true; take = (read_call piece).take })
      (decoder_run_lem (read_call piece).mode from (octets_in piece))

  pub front_is : take (2 * (played p piece).answer.count) (played p piece).left ≡ samples_run from (told piece)
  front_is =
      let h = play_heard p.player piece p.samples z in
      let n = octets_length piece h.read in
      let l : length (samples_of (read_call piece).mode from (octets_in piece)) ≡ 2 * (read_call piece).count =
      samples_length (read_call piece).mode from (octets_in piece) ∙ ap (λ (k : ℕ). 2 * k) n in
      rw (play_done p.player piece p.samples h.read h.room h.sound) (take_at _ _ (2 * (read_call piece).count) l)
      ∙ samples_run_lem (read_call piece).mode from (octets_in piece)

  -- and the count that is said of it is that of the samples which limiting changed
  pub limited_is : (played p piece).answer.limited ≡ overloads (samples_in_full (read_call piece).mode from (octets_in piece))
  limited_is =
      let h = play_heard p.player piece p.samples z in
      ap (λ (x : Outcome Played (List ℤ)). x.answer.limited) (play_done p.player piece p.samples h.read h.room h.sound)
