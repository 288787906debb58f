-- A block played: read, and its octets decoded into the front of lent samples, from reset where a take begins.
-- Assumes nothing.
use Rattle.std.specs.Prelude.{Bool, true, false, cond, not, ◌||◌, List, ◌++◌, ℕ, ◌-◌, ◌*◌, eqb, ltb, ℤ, pos, length, get_or, take, drop}
use Rattle.laws.specs.Outcome.{Outcome}
use Rattle.g722.specs.Records.{good_decoder, reset_decoder}
use Rattle.g722.specs.Decoding.{decoded}
use Rattle.g722.specs.Answers.{Decoded}
use Rattle.g722.specs.declared.Decoder.{Decoder}
use Rattle.block.specs.Calls.{read_call}
use Rattle.block.specs.Read.{BlockRead}
use Rattle.playing.specs.Answer.{Played}
use Rattle.playing.specs.declared.Player.{Player}

-- ---- where a take begins

-- before the first block: the decoder at reset, and no take yet
unfoldable pub start_player : Player
start_player = record { decoder = reset_decoder; begun = false; take = 0 }

-- a block after one of this take begins a take if it is numbered 0, or if it is of another take
unfoldable pub begins : ℕ → BlockRead → Bool
begins before b = eqb b.block 0 || not (eqb b.take before)

-- the first block of all begins one anyway
unfoldable pub afresh : Player → BlockRead → Bool
afresh p b = not p.begun || begins p.take b

-- where a take begins, the decoder is reset before the block's octets; else they are decoded from where the block before left it
unfoldable pub decoder_for : Player → BlockRead → Decoder
decoder_for p b = cond (afresh p b) reset_decoder p.decoder

-- ---- a block

-- a refusal gives the player's record back as it came, and 0 in every other field
abbrev pub not_played : ℕ → Player → Played
not_played number p =
    record { number = number; index = 0; next = p; take = 0; block = 0; mode = 0; count = 0; first = pos 0; last = pos 0; limited = 0 }

-- what is said of a block that was played, from the decoder's answer and the samples; the player keeps the block's take
unfoldable pub reported : BlockRead → Decoded → List ℤ → Played
reported b done samples =
    record {
      number = 0;
      index = 0;
      next = record { decoder = done.next; begun = true; take = b.take };
      take = b.take;
      block = b.block;
      mode = b.mode;
      count = b.count;
      first = get_or samples 0 (pos 0);
      last = get_or samples (2 * b.count - 1) (pos 0);
      limited = done.limited;
    }

-- the octets of a block, from byte 12
abbrev pub octets_in : List ℕ → List ℕ
octets_in b = take (read_call b).count (drop 12 b)

-- octets decoded from a record, in the mode of their block, into the front of the samples; those behind stay
unfoldable pub played_from : Decoder → BlockRead → List ℕ → List ℤ → Outcome Played (List ℤ)
played_from d b octets rest =
    let done = decoded b.mode d octets in
    record { answer = reported b done.answer (done.left ++ rest); left = done.left ++ rest }

-- reading's refusals, 6, 7 and 8, then 3 where the samples are too few for the octets, then 2 where the record is broken, even if the
-- block begins a take and does not go on from it
unfoldable pub play_call : Player → List ℕ → List ℤ → Outcome Played (List ℤ)
play_call p b samples =
    cond (not (eqb (read_call b).number 0)) (record { answer = not_played (read_call b).number p; left = samples })
    (cond (ltb (length samples) (2 * (read_call b).count)) (record { answer = not_played 3 p; left = samples })
    (cond (not (good_decoder p.decoder)) (record { answer = not_played 2 p; left = samples })
    (played_from (decoder_for p (read_call b)) (read_call b) (octets_in b) (drop (2 * (read_call b).count) samples))))
