-- Worked calls of a host, accepted and refused, which the prover computes: they tell the definitions here from others.
-- Assumes nothing.
use Rattle.std.specs.Prelude.{◌≡◌, refl, List, [], ◌∷◌, ◌++◌, ℕ, ◌^◌, take, drop, replicate}
use Rattle.g722.specs.Opened.{meaning}
use Rattle.big_endian.specs.Bytes.{sample_of, pcm_samples, word_of, high_of, low_of, pcm_bytes}
use Rattle.pcm.specs.Chunks.{encode_chunk, not_stored, as_bytes, decode_chunk}
use Rattle.state.specs.Layout.{band_values, coder_values, decoder_values, coder_bytes, decoder_bytes}
use Rattle.state.specs.Layout.{band_of, coder_of, decoder_of, holds, no_coder, no_decoder, coder_in, decoder_in}
use Rattle.state.specs.Reset.{reset_bytes}
use Rattle.host.specs.Answer.{packed}
use Rattle.host.specs.Calls.{after_coding, code_bytes, after_decoding, decode_bytes, after_data, put_bytes, take_bytes}

-- all that a call computes with
unfoldable opened : Unit {0}
unfolding meaning sample_of pcm_samples word_of high_of low_of pcm_bytes encode_chunk not_stored as_bytes decode_chunk
    band_values coder_values decoder_values coder_bytes decoder_bytes band_of coder_of decoder_of holds no_coder no_decoder coder_in decoder_in
    reset_bytes packed after_coding code_bytes after_decoding decode_bytes after_data put_bytes take_bytes
opened = tt

-- 0 and 900 are coded, and are the newest past samples
code_accepted : let x = code_bytes (reset_bytes 1) (0 ∷ 0 ∷ 3 ∷ 132 ∷ []) (7 ∷ []) in
    (x.answer ≡ 0) × (drop 121 x.left.0 ≡ 0 ∷ 0 ∷ 3 ∷ 132 ∷ []) × (x.left.1 ≡ 0xFA ∷ [])
unfolding opened after_coding
code_accepted = (refl, refl, refl)

-- the four samples in the filter's middle are 16383, so XL is 19306 in full and XH is 0: one value is limited
code_limited : let loud : List ℕ = 63 ∷ 255 ∷ 63 ∷ 255 ∷ 63 ∷ 255 ∷ 63 ∷ 255 ∷ [] in
    let x = code_bytes (take 101 (reset_bytes 1) ++ (loud ++ replicate 16 0)) (replicate 4 0) (7 ∷ []) in
    (x.answer ≡ 2 ^ 32) × (drop 97 x.left.0 ≡ loud ++ replicate 20 0) × (x.left.1 ≡ 0xE0 ∷ [])
unfolding opened after_coding
code_limited = (refl, refl, refl)

-- the second of 5 and 16384 is out of range: number 4, index 1
code_refused : code_bytes (reset_bytes 1) (0 ∷ 5 ∷ 64 ∷ 0 ∷ []) (7 ∷ []) ≡ record { answer = 260; left = (reset_bytes 1, 7 ∷ []) }
unfolding opened after_coding
code_refused = refl

-- a coder's state is no decoder's
decode_refused : decode_bytes (reset_bytes 1) 3 (0xFA ∷ []) (replicate 4 7) ≡ record { answer = 2; left = (reset_bytes 1, replicate 4 7) }
unfolding opened after_decoding
decode_refused = refl

-- and a decoder's is: the newest RH is 1
decode_accepted : let x = decode_bytes (reset_bytes 2) 3 (0x97 ∷ []) (replicate 4 7) in
    (x.answer ≡ 0) × (take 1 x.left.0 ≡ 2 ∷ []) × (drop 123 x.left.0 ≡ 0 ∷ 1 ∷ []) × (x.left.1 ≡ 255 ∷ 255 ∷ 0 ∷ 0 ∷ [])
unfolding opened after_decoding
decode_accepted = (refl, refl, refl, refl)

-- two bits an octet in mode 3, one in mode 2
put_worked : put_bytes 3 (0xFC ∷ 0xFC ∷ 0xFC ∷ 0xFC ∷ []) (0xE4 ∷ []) ≡ record { answer = 0; left = 0xFF ∷ 0xFE ∷ 0xFD ∷ 0xFC ∷ [] }
unfolding opened
put_worked = refl

take_worked : take_bytes 3 (0xFF ∷ 0xFE ∷ 0xFD ∷ 0xFC ∷ []) (7 ∷ []) ≡ record { answer = 0; left = 0xE4 ∷ [] }
unfolding opened
take_worked = refl

take_refused : take_bytes 1 (0xFF ∷ []) (7 ∷ []) ≡ record { answer = 5; left = 7 ∷ [] }
unfolding opened
take_refused = refl
