-- What the mirror filters answer of a block, by the definitions of G.722, 5.2, pair after pair.
-- Assumes nothing.
use Rattle.std.specs.Prelude.{Bool, cond, not, ◌&&◌, List, [], ◌∷◌, ◌++◌, map, ℕ, ◌*◌, ltb, eqb, ℤ, length, drop}
use Rattle.laws.specs.Outcome.{Outcome}
use Rattle.g722.specs.Arithmetic.{shr, add, sub, limit, overloads}
use Rattle.g722.specs.Mirror.{lowt, hight}
use Rattle.g722.specs.Coding.{split_in_full}
use Rattle.g722.specs.Steps.{pairs_next, pairs_after}
use Rattle.g722.specs.declared.Pairs.{Pairs}
use Rattle.mirror.specs.declared.Parted.{Parted}
use Rattle.mirror.specs.declared.Joined.{Joined}
use Rattle.mirror.specs.Rows.{nth, taps_at}

-- 2n samples with n signals of each band, n at most 160
unfoldable pub block_fits : ℕ → ℕ → ℕ → Bool
block_fits samples low high = not (ltb 160 low) && eqb samples (2 * low) && eqb high low

-- ---- the transmit filter

-- a signal of each pair, XL or XH, and the 22 samples that the next run sees again
unfoldable pub filtered_by : (List ℤ → ℤ) → List ℤ → List ℤ → List ℤ
filtered_by filter past [] = []
filtered_by filter past (x ∷ []) = []
filtered_by filter past (x ∷ y ∷ rest) =
    let w = past ++ (x ∷ y ∷ []) in
    limit (filter w) ∷ filtered_by filter (drop 2 w) rest

unfoldable pub past_after : List ℤ → List ℤ → List ℤ
past_after past [] = past
past_after past (x ∷ []) = past
past_after past (x ∷ y ∷ rest) = past_after (drop 2 (past ++ (x ∷ y ∷ []))) rest

abbrev pub split_run : List ℤ → List ℤ → Outcome Parted (List ℤ × List ℤ)
split_run past samples =
    record {
      answer = record { limited = overloads (split_in_full past samples); past = past_after past samples };
      left = (filtered_by lowt past samples, filtered_by hight past samples);
    }

-- a block that does not fit is given back as it came
unfoldable pub split_block : List ℤ → List ℤ → List ℤ → List ℤ → Outcome Parted (List ℤ × List ℤ)
split_block past samples low high =
    cond (block_fits (length samples) (length low) (length high)) (split_run past samples)
    (record { answer = record { limited = 0; past = past }; left = (low, high) })

-- ---- the receive filter

-- the difference and the sum of two rows at place k, XD and XS, as 16 bits hold them: they stop at the ends
abbrev pub stopped_xd : List ℤ → List ℤ → ℕ → ℤ
stopped_xd rl rh k = sub (nth rl k) (nth rh k)

abbrev pub stopped_xs : List ℤ → List ℤ → ℕ → ℤ
stopped_xs rl rh k = add (nth rl k) (nth rh k)

-- the samples of a run of pairs in full; where all signals are in range they are those of `joined_in_full` (Fitting)
unfoldable pub joined_stopped : Pairs → List ℤ → List ℤ → List ℤ
joined_stopped p [] high = []
joined_stopped p (x ∷ low) [] = []
joined_stopped p (x ∷ low) (y ∷ high) =
    let rl = p.rl ++ (x ∷ []) in
    let rh = p.rh ++ (y ∷ []) in
    shr (taps_at 0 (stopped_xd rl rh) 0) 12 ∷ shr (taps_at 1 (stopped_xs rl rh) 0) 12 ∷ joined_stopped (pairs_next p x y) low high

abbrev pub join_run : Pairs → List ℤ → List ℤ → Outcome Joined (List ℤ)
join_run past low high =
    record {
      answer = record { limited = overloads (joined_stopped past low high); past = pairs_after past low high };
      left = map limit (joined_stopped past low high);
    }

-- a block that does not fit is given back as it came
unfoldable pub join_block : Pairs → List ℤ → List ℤ → List ℤ → Outcome Joined (List ℤ)
join_block past low high samples =
    cond (block_fits (length samples) (length low) (length high)) (join_run past low high)
    (record { answer = record { limited = 0; past = past }; left = samples })
