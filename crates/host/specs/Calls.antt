-- The calls of a host: each is the record's call between reading the state bytes and writing them.
-- Assumes nothing.
use Rattle.std.specs.Prelude.{cond, List, ℕ, eqb}
use Rattle.laws.specs.Outcome.{Outcome}
use Rattle.g722.specs.Cue.{put_call, take_call}
use Rattle.g722.specs.Answers.{Coded, Decoded, Moved}
use Rattle.pcm.specs.Chunks.{encode_chunk, decode_chunk}
use Rattle.state.specs.Layout.{coder_in, coder_bytes, decoder_in, decoder_bytes}
use Rattle.host.specs.Answer.{packed}

-- an accepted call leaves the next state, a refused one the state as it came
abbrev pub state_after : ℕ → List ℕ → List ℕ → List ℕ
state_after number next state = cond (eqb number 0) next state

-- what is left: the state, and the octets or samples
unfoldable pub after_coding : List ℕ → Outcome Coded (List ℕ) → Outcome ℕ (List ℕ × List ℕ)
after_coding state x =
    record {
      answer = packed x.answer.number x.answer.index x.answer.limited;
      left = (state_after x.answer.number (coder_bytes x.answer.next) state, x.left);
    }

unfoldable pub code_bytes : List ℕ → List ℕ → List ℕ → Outcome ℕ (List ℕ × List ℕ)
code_bytes state samples octets = after_coding state (encode_chunk (coder_in state) samples octets)

unfoldable pub after_decoding : {L : Type 0} → List ℕ → Outcome Decoded L → Outcome ℕ (List ℕ × L)
after_decoding state x =
    record {
      answer = packed x.answer.number x.answer.index x.answer.limited;
      left = (state_after x.answer.number (decoder_bytes x.answer.next) state, x.left);
    }

unfoldable pub decode_bytes : List ℕ → ℕ → List ℕ → List ℕ → Outcome ℕ (List ℕ × List ℕ)
decode_bytes state told octets samples = after_decoding state (decode_chunk (decoder_in state) told octets samples)

-- data calls have no state, and nothing to limit
unfoldable pub after_data : Outcome Moved (List ℕ) → Outcome ℕ (List ℕ)
after_data x = record { answer = packed x.answer.number x.answer.index 0; left = x.left }

unfoldable pub put_bytes : ℕ → List ℕ → List ℕ → Outcome ℕ (List ℕ)
put_bytes mode octets bytes = after_data (put_call mode octets bytes)

unfoldable pub take_bytes : ℕ → List ℕ → List ℕ → Outcome ℕ (List ℕ)
take_bytes mode octets bytes = after_data (take_call mode octets bytes)
