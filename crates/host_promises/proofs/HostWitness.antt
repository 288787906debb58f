-- A host's run that is there: from the reset bytes two pairs are coded, a third is refused, data stands in the last two bits of what was
-- sent, and it is decoded in mode 3. So what the promises to a host ask for can be had.
-- Assumes nothing.
use Rattle.std.specs.Prelude.{◌≡◌, refl, List, [], ◌∷◌, map, replicate}
use Rattle.std.proofs.Common.{sym, ap, ◌∙◌}
use Rattle.g722.specs.Opened.{meaning}
use Rattle.facts.specs.Upper.{upper_six}
use Rattle.big_endian.specs.Bytes.{sample_of, pcm_samples, word_of, high_of, low_of, pcm_bytes}
use Rattle.pcm.specs.Chunks.{encode_chunk, not_stored, as_bytes, decode_chunk}
use Rattle.state.specs.Layout.{band_values, coder_values, decoder_values, coder_bytes, decoder_bytes}
use Rattle.state.specs.Layout.{band_of, coder_of, decoder_of, holds, coder_in, decoder_in}
use Rattle.state.specs.Reset.{reset_bytes}
use Rattle.host.specs.Answer.{packed, number_in}
use Rattle.host.specs.Calls.{after_coding, code_bytes, after_decoding, decode_bytes}
use Rattle.promises.proofs.Through.{through, answers, of_accepted}
use Rattle.promises.proofs.StepRuns.{received}
use Rattle.host_promises.specs.Streams.{EncodeInput, StoreInput}
use Rattle.host_promises.specs.HostEnds.{bands}
use Rattle.host_promises.proofs.HostCalls.{Returned, host_coding, host_sent, host_decoding, host_came}
use Rattle.host_promises.proofs.HostEnds.{host_states_equal}

-- 0, 900, 2400 and -300; then 5 and 16384, which is out of range
abbrev pub host_calls : List EncodeInput
host_calls =
    record { bytes = 0 ∷ 0 ∷ 3 ∷ 132 ∷ 9 ∷ 96 ∷ 254 ∷ 212 ∷ []; octets = replicate 2 0 }
    ∷ record { bytes = 0 ∷ 5 ∷ 64 ∷ 0 ∷ []; octets = replicate 1 7 }
    ∷ []

abbrev pub host_replies : List StoreInput
host_replies = record { told = 3; octets = 0xFA ∷ 0x97 ∷ []; bytes = replicate 8 0 } ∷ []

-- the words of the coding calls and what they sent; the word of the decoding call and what came
pub record HostWitnessed : Type 0 where
  pub codes : map (λ (a : Returned). a.word) (answers host_coding (reset_bytes 1) host_calls) ≡ 0 ∷ packed 4 1 0 ∷ []
  pub sends : host_sent (reset_bytes 1) host_calls ≡ 0xFA ∷ 0x94 ∷ []
  pub decodes : map (λ (a : Returned). a.word) (answers host_decoding (reset_bytes 2) host_replies) ≡ 0 ∷ []
  pub comes : received (host_came (reset_bytes 2) host_replies) ≡ 0xFA ∷ 0x97 ∷ []

pub host_witnessed : HostWitnessed
unfolding meaning sample_of pcm_samples word_of high_of low_of pcm_bytes encode_chunk not_stored as_bytes decode_chunk
    band_values coder_values decoder_values coder_bytes decoder_bytes band_of coder_of decoder_of holds coder_in decoder_in reset_bytes
    packed number_in after_coding code_bytes after_decoding decode_bytes through answers of_accepted
host_witnessed = record { codes = refl; sends = refl; decodes = refl; comes = refl }

-- and so its states are equal in the bytes of both bands
pub host_witness_equal : bands (through host_coding (reset_bytes 1) host_calls) ≡ bands (through host_decoding (reset_bytes 2) host_replies)
host_witness_equal =
    host_states_equal host_calls host_replies (ap (map upper_six) host_witnessed.sends ∙ ap (map upper_six) (sym host_witnessed.comes))
