-- The sums 1 to 12 worked by hand, each with all its values: one table, and one proof over it.
-- Assumes nothing.
use Rattle.std.specs.Prelude.{refl, List, [], ◌∷◌, pos, drop, replicate}
use Rattle.g722.specs.Arithmetic.{neg}
use Rattle.g722.specs.Tables.{q6}
use Rattle.g722.specs.Quantise.{quantise, quantl, logscl, scalel, scaleh}
use Rattle.g722.specs.Records.{reset_coder, reset_decoder}
use Rattle.g722.specs.Coding.{code_call}
use Rattle.g722.specs.Cue.{put_call}
use Rattle.g722.specs.Opened.{meaning}
use Rattle.g722.specs.Case.{Case, ◌gives◌, Hold, all_hold, these, sent, heard, codes, decodes, moves}

pub sums1to12 : List Case
sums1to12 =
    -- 1
    (sent (pos 0 ∷ pos 0 ∷ []) gives these (0xFA ∷ []))
    -- 2
    ∷ (these (quantl (neg 1) (pos 32) ∷ quantl (pos 1) (pos 32) ∷ []) gives these (0b011110 ∷ 0b110111 ∷ []))
    -- 3
    ∷ (these ((quantise (drop 1 q6) (pos 21) (pos 32)).number ∷ (quantise (drop 1 q6) (pos 22) (pos 32)).number ∷ [])
    gives these (29 ∷ 30 ∷ []))
    -- 4
    ∷ (heard 0 (0xFA ∷ []) gives (pos 0 ∷ neg 1 ∷ []))
    ∷ (heard 1 (0xFA ∷ []) gives (pos 0 ∷ neg 1 ∷ []))
    ∷ (heard 3 (0xFA ∷ []) gives (pos 0 ∷ neg 1 ∷ []))
    ∷ (heard 2 (0xFA ∷ []) gives (pos 0 ∷ pos 0 ∷ []))
    -- 5
    ∷ (heard 3 (0xF8 ∷ []) gives (pos 0 ∷ neg 1 ∷ []))
    ∷ (heard 3 (0xF9 ∷ []) gives (pos 0 ∷ neg 1 ∷ []))
    ∷ (heard 3 (0xFB ∷ []) gives (pos 0 ∷ neg 1 ∷ []))
    -- 6
    ∷ (heard 1 (0xFF ∷ []) gives (neg 1 ∷ pos 0 ∷ []))
    ∷ (heard 3 (0xFF ∷ []) gives (pos 0 ∷ pos 0 ∷ []))
    -- 7: the words of interval 7, then those of interval 0
    ∷ ((logscl 0b100000 (pos 18432) ∷ logscl 0b000100 (pos 18432) ∷ []) gives (pos 18432 ∷ pos 18432 ∷ []))
    ∷ ((logscl 0b111100 (pos 18432) ∷ logscl 0b000000 (pos 18432) ∷ []) gives (pos 18228 ∷ pos 18228 ∷ []))
    -- 8
    ∷ ((scalel (pos 0) ∷ scaleh (pos 0) ∷ scalel (pos 18432) ∷ scaleh (pos 22528) ∷ [])
    gives (pos 32 ∷ pos 8 ∷ pos 16384 ∷ pos 16384 ∷ []))
    -- 9
    ∷ (moves (put_call 3 (replicate 4 0xFA) (0xB1 ∷ [])) gives these (0 ∷ 0 ∷ 0xFA ∷ 0xFB ∷ 0xF8 ∷ 0xF9 ∷ []))
    -- 10
    ∷ (moves (put_call 2 (replicate 8 0xFA) (0x81 ∷ []))
    gives these (0 ∷ 0 ∷ 0xFB ∷ 0xFA ∷ 0xFA ∷ 0xFA ∷ 0xFA ∷ 0xFA ∷ 0xFA ∷ 0xFB ∷ []))
    -- 11
    ∷ (codes reset_coder (pos 16384 ∷ pos 0 ∷ []) (7 ∷ []) gives these (4 ∷ 0 ∷ 0 ∷ 7 ∷ []))
    ∷ ((pos (code_call reset_coder (pos 16383 ∷ neg 16384 ∷ []) (7 ∷ [])).answer.number ∷ []) gives (pos 0 ∷ []))
    -- 12
    ∷ (decodes reset_decoder 4 (0xFA ∷ []) (pos 1 ∷ pos 2 ∷ pos 3 ∷ []) gives these (1 ∷ 0 ∷ 0 ∷ 1 ∷ 2 ∷ 3 ∷ []))
    ∷ []

pub sums_hold : Hold sums1to12
unfolding sums1to12 meaning
sums_hold = all_hold sums1to12 refl
