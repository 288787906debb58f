-- Worked calls of the two steps, accepted and refused, which the prover computes: they tell the definitions here from others.
-- Assumes nothing.
use Rattle.std.specs.Prelude.{◌≡◌, refl, List, [], ◌∷◌, ◌++◌, ℕ, ◌*◌, ◌^◌, take, drop, replicate}
use Rattle.g722.specs.Opened.{meaning}
use Rattle.big_endian.specs.Bytes.{sample_of, pcm_samples, word_of, high_of, low_of, pcm_bytes}
use Rattle.pcm.specs.Chunks.{not_stored, as_bytes}
use Rattle.pcm.specs.Signals.{unpaired_bytes, not_heard_bytes, both_as_bytes, hear_chunk, unjoined_bytes, bad_pair, join_signals, join_chunk}
use Rattle.state.specs.Layout.{band_values, decoder_values, decoder_bytes, band_of, decoder_of, holds, no_decoder, decoder_in}
use Rattle.state.specs.Reset.{reset_bytes}
use Rattle.host.specs.Answer.{packed}
use Rattle.host.specs.Calls.{after_decoding}
use Rattle.host_steps.specs.Calls.{hear_bytes, join_bytes}

-- all that a call computes with
unfoldable opened : Unit {0}
unfolding meaning sample_of pcm_samples word_of high_of low_of pcm_bytes not_stored as_bytes
    unpaired_bytes not_heard_bytes both_as_bytes hear_chunk unjoined_bytes bad_pair join_signals join_chunk
    band_values decoder_values decoder_bytes band_of decoder_of holds no_decoder decoder_in reset_bytes packed after_decoding hear_bytes join_bytes
opened = tt

-- RL is -5 and RH is 1, both log factors move, and no past pair does
hear_accepted : let x = hear_bytes (reset_bytes 2) 3 (0x97 ∷ []) (7 ∷ 7 ∷ []) (8 ∷ 8 ∷ []) in
    (x.answer ≡ 0) × (x.left.1 ≡ (255 ∷ 251 ∷ [], 0 ∷ 1 ∷ [])) × (take 4 (drop 37 x.left.0) ≡ 0 ∷ 172 ∷ 0 ∷ 32 ∷ [])
    × (take 4 (drop 77 x.left.0) ≡ 3 ∷ 30 ∷ 0 ∷ 8 ∷ []) × (drop 81 x.left.0 ≡ replicate 44 0)
unfolding opened
hear_accepted = (refl, refl, refl, refl, refl)

-- a mode above 3, signals of another length, and a coder's state
hear_refused : hear_bytes (reset_bytes 1) 4 (0x97 ∷ []) [] [] ≡ record { answer = 1; left = (reset_bytes 1, ([], [])) }
unfolding opened
hear_refused = refl

hear_unfit : hear_bytes (reset_bytes 1) 3 (0x97 ∷ []) (7 ∷ 7 ∷ []) (8 ∷ [])
    ≡ record { answer = 3; left = (reset_bytes 1, (7 ∷ 7 ∷ [], 8 ∷ [])) }
unfolding opened
hear_unfit = refl

hear_broken : hear_bytes (reset_bytes 1) 3 (0x97 ∷ []) (7 ∷ 7 ∷ []) (8 ∷ 8 ∷ [])
    ≡ record { answer = 2; left = (reset_bytes 1, (7 ∷ 7 ∷ [], 8 ∷ 8 ∷ [])) }
unfolding opened
hear_broken = refl

-- 16383 and -16384 are the newest past pair, and no band moves
join_accepted : let x = join_bytes (reset_bytes 2) (63 ∷ 255 ∷ []) (192 ∷ 0 ∷ []) (7 ∷ 7 ∷ 7 ∷ 7 ∷ []) in
    (x.answer ≡ 0) × (x.left.1 ≡ 0 ∷ 23 ∷ 0 ∷ 0 ∷ []) × (take 101 x.left.0 ≡ take 101 (reset_bytes 2))
    × (drop 101 x.left.0 ≡ 63 ∷ 255 ∷ replicate 20 0 ++ (192 ∷ 0 ∷ []))
unfolding opened
join_accepted = (refl, refl, refl, refl)

-- 16383 beside -16384 and then -16384 twice in the filter's middle: the samples are 31007 and -31009 in full, so both are limited
join_limited : let pairs : List ℕ = 63 ∷ 255 ∷ 192 ∷ 0 ∷ replicate 18 0 ++ (192 ∷ 0 ∷ 192 ∷ 0 ∷ []) in
    let x = join_bytes (take 91 (reset_bytes 2) ++ (pairs ++ replicate 8 0)) (0 ∷ 0 ∷ []) (0 ∷ 0 ∷ []) (replicate 4 7) in
    (x.answer ≡ 2 * 2 ^ 32) × (drop 89 x.left.0 ≡ pairs ++ replicate 10 0) × (x.left.1 ≡ 63 ∷ 255 ∷ 192 ∷ 0 ∷ [])
unfolding opened
join_limited = (refl, refl, refl)

-- the high signal of the second pair is 16384: number 4, index 1
join_refused : join_bytes (reset_bytes 2) (replicate 4 0) (0 ∷ 0 ∷ 64 ∷ 0 ∷ []) (replicate 8 7)
    ≡ record { answer = 260; left = (reset_bytes 2, replicate 8 7) }
unfolding opened
join_refused = refl

-- a low signal that is cut in two, and a bad one beside a broken state
join_unfit : join_bytes (reset_bytes 2) (0 ∷ []) (0 ∷ []) [] ≡ record { answer = 3; left = (reset_bytes 2, []) }
unfolding opened
join_unfit = refl

join_broken : join_bytes (reset_bytes 1) (64 ∷ 0 ∷ []) (0 ∷ 0 ∷ []) (replicate 4 7)
    ≡ record { answer = 2; left = (reset_bytes 1, replicate 4 7) }
unfolding opened
join_broken = refl
