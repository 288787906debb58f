-- Both bands over a run of signals, pair by pair: its octets, and the bands after it.
-- Assumes nothing.
use Rattle.std.specs.Prelude.{List, [], ◌∷◌, ℕ, ℤ}
use Rattle.laws.specs.Outcome.{Outcome}
use Rattle.g722.specs.Band.{low_after, high_after}
use Rattle.g722.specs.Octet.{octet}
use Rattle.g722.specs.Coding.{low_word_of, high_word_of}
use Rattle.g722.specs.declared.Band.{Band}
use Rattle.coder.specs.declared.BothBands.{BothBands}

unfoldable pub octets_by : Band → Band → List ℤ → List ℤ → List ℕ
octets_by low high [] xhs = []
octets_by low high (xl ∷ xls) [] = []
octets_by low high (xl ∷ xls) (xh ∷ xhs) =
    let il = low_word_of low xl in
    let ih = high_word_of high xh in
    octet ih il ∷ octets_by (low_after low il) (high_after high ih) xls xhs

unfoldable pub bands_after : Band → Band → List ℤ → List ℤ → BothBands
bands_after low high [] xhs = record { low = low; high = high }
bands_after low high (xl ∷ xls) [] = record { low = low; high = high }
bands_after low high (xl ∷ xls) (xh ∷ xhs) =
    bands_after (low_after low (low_word_of low xl)) (high_after high (high_word_of high xh)) xls xhs

abbrev pub bands_run : Band → Band → List ℤ → List ℤ → Outcome BothBands (List ℕ)
bands_run low high xls xhs = record { answer = bands_after low high xls xhs; left = octets_by low high xls xhs }
