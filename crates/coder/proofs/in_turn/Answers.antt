-- `coder::in_turn` meets its contract: coding is the filter and then the bands.
use mathlib.Core.Path.{◌∙◌}
use mathlib.Core.List.{List}
use Prim.Native.Nat.{ℕ, ◌≤◌, ◌*◌}
use native.Mathlib.Omega.{arith}
use lib.IntN.{ℤ}
use lib.ListN.{length}
use Rattle.std.specs.Prelude.{◌≡◌}
use Rattle.laws.specs.Outcome.{Does, becomes}
use Rattle.facts.specs.Blocks.{coder_done, coded_next_good}
use Rattle.facts.specs.Good.{coder_poles}
use Rattle.g722.specs.Coding.{coded}
use Rattle.g722.specs.declared.Coder.{Coder}
use Rattle.mirror.specs.declared.Parted.{Parted}
use Rattle.mirror.specs.Block.{split_block}
use Rattle.mirror.specs.Fitting.{block_fits_lem, split_fits}
use Rattle.coder.specs.Step.{bands_run}
use Rattle.coder.specs.declared.BothBands.{BothBands}
use Rattle.coder.proofs.InTurn.{coded_in_turn}
use Rattle.coder.proofs.in_turn.Goals as goal

-- the filter over a block, and then the bands over its signals
did : (c : Coder) (samples low high : List ℤ) {f : Parted} {xl xh : List ℤ} {b : BothBands} {o : List ℕ} → length low ≤ 160
    → length samples ≡ 2 * length low → length high ≡ length low → Does (split_block c.past samples low high) f (xl, xh)
    → Does (bands_run c.low c.high xl xh) b o
    → Does (coded c samples) (coder_done f.limited (record { low = b.low; high = b.high; past = f.past })) o
did c samples low high few twice even f b =
    coded_in_turn c samples (becomes (split_fits _ _ _ _ (block_fits_lem _ _ _ few twice even)) f) b

pub bands_all-bands-requires : goal.bands_all-bands-requires
bands_all-bands-requires c =
    let asked = c.requires in
    let poles = coder_poles c.args.c.coder c.args.c.good in
    record {
      octets_len_bound = asked.octets_len_bound;
      words_len = asked.words_len;
      xl_len = c.split-parted.auto.low ∙ asked.low_len;
      xh_len = c.split-parted.auto.high ∙ asked.high_len;
      poles_value = poles.0;
      poles_value_2 = poles.1;
    }

pub invariant_of-result : goal.invariant_of-result
invariant_of-result c =
    let a = c.args in
    let by = did a.c.coder a.samples.now a.low.now a.high.now (omega arith) (omega arith) (omega arith) c.split-parted.ensures c.bands_all-bands.ensures in
    record { good = coded_next_good _ a.samples.now by a.c.good c.requires.samples_value }

pub returns : goal.returns
returns c =
    let a = c.args in
    did a.c.coder a.samples.now a.low.now a.high.now (omega arith) (omega arith) (omega arith) c.split-parted.ensures c.bands_all-bands.ensures
