-- Long runs of the definitions beside what a model of ours gave: noise through every block, at both ends and in each mode.
-- Assumes nothing.
use Rattle.std.specs.Prelude.{refl, List, [], ◌∷◌, ◌++◌, map, ℕ, zero, suc, ◌+◌, ◌*◌, ◌/◌, ◌%◌, ℤ, pos, ◌-ℤ◌, drop, replicate}
use Rattle.g722.specs.Arithmetic.{neg}
use Rattle.g722.specs.Records.{reset_coder, reset_decoder}
use Rattle.g722.specs.Coding.{code_call}
use Rattle.g722.specs.Decoding.{rl_of, decoder_after}
use Rattle.g722.specs.Cue.{put_call}
use Rattle.g722.specs.Opened.{meaning}
use Rattle.g722.specs.Case.{Case, ◌gives◌, Hold, all_hold, these, sent, heard}

-- numbers that look like noise, below 32768
noise : ℕ → ℕ → List ℕ
noise seed zero = []
noise seed (suc n) = (seed / 65536) ∷ noise ((seed * 1103515245 + 12345) % 2147483648) n

-- as octets, as samples of full scale, and as quiet ones
abbrev any_octets : List ℕ
any_octets = map (λ (x : ℕ). x % 256) (noise 1103527590 50)

abbrev loud : List ℤ
loud = map (λ (x : ℕ). pos x -ℤ pos 16384) (noise 1103527590 100)

abbrev quiet : List ℤ
quiet = map (λ (x : ℕ). pos (x / 128) -ℤ pos 128) (noise 1103527590 100)

-- the last four octets of 50 in the three modes, and the last eight pairs of 50 in coding
pub runs : List Case
runs =
    (drop 92 (heard 1 any_octets)
    gives (pos 1008 ∷ neg 1881 ∷ neg 3231 ∷ neg 1346 ∷ pos 1188 ∷ pos 2703 ∷ pos 2454 ∷ pos 656 ∷ []))
    ∷ (drop 92 (heard 2 any_octets)
    gives (pos 1045 ∷ neg 1770 ∷ neg 3171 ∷ neg 1416 ∷ pos 1092 ∷ pos 2739 ∷ pos 2626 ∷ pos 830 ∷ []))
    ∷ (drop 92 (heard 3 any_octets)
    gives (pos 733 ∷ neg 1642 ∷ neg 2821 ∷ neg 1228 ∷ pos 1257 ∷ pos 3041 ∷ pos 2890 ∷ pos 951 ∷ []))
    ∷ (drop 42 (sent loud) gives these (0x84 ∷ 0x0B ∷ 0x91 ∷ 0x19 ∷ 0x0D ∷ 0xC6 ∷ 0x3A ∷ 0x13 ∷ []))
    -- FILTEZ: the low signal of octet 139. With one stop, or in the other order, it is 15805
    ∷ ((rl_of 1 (decoder_after 1 reset_decoder (replicate 137 0x20 ++ replicate 2 0x04)).low 0x04 ∷ []) gives (pos 15644 ∷ []))
    ∷ (drop 42 (sent quiet) gives these (0xD2 ∷ 0x5B ∷ 0x9D ∷ 0x7E ∷ 0x5C ∷ 0xD5 ∷ 0x3B ∷ 0x1D ∷ []))
    ∷ []

pub runs_hold : Hold runs
unfolding runs noise meaning
runs_hold = all_hold runs refl

-- whole calls: 8000 octets are taken, and no more
pub calls : List Case
calls =
    (these ((code_call reset_coder (replicate 16000 (pos 0)) (replicate 8000 0)).answer.number ∷ []) gives these (0 ∷ []))
    ∷ (these ((code_call reset_coder (replicate 16002 (pos 0)) (replicate 8001 0)).answer.number ∷ []) gives these (3 ∷ []))
    ∷ (these ((put_call 2 (replicate 8000 0) (replicate 1000 0)).answer.number ∷ []) gives these (0 ∷ []))
    ∷ (these ((put_call 2 (replicate 8008 0) (replicate 1001 0)).answer.number ∷ []) gives these (3 ∷ []))
    ∷ []

pub calls_hold : Hold calls
unfolding calls meaning
calls_hold = all_hold calls refl
