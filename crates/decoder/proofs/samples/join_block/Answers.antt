-- `decoder::samples::join_block` meets its contract, by that of the receive filter.
use mathlib.Core.Path.{◌≡◌}
use mathlib.Core.Bool.{true}
use mathlib.Core.List.{List}
use Prim.Native.Nat.{◌≤◌, ◌*◌}
use lib.IntN.{ℤ}
use lib.ListN.{length}
use Rattle.laws.specs.Outcome.{Does, becomes}
use Rattle.g722.specs.Records.{all_in_range, good_decoder}
use Rattle.g722.specs.Steps.{joined, joined_after}
use Rattle.g722.specs.declared.Decoder.{Decoder}
use Rattle.facts.specs.Signals.{parts}
use Rattle.facts.specs.Blocks.{done, joined_next_good}
use Rattle.mirror.specs.declared.Joined.{Joined}
use Rattle.mirror.specs.Block.{join_block}
use Rattle.mirror.specs.Fitting.{block_fits_lem, PairsInRange, join_fits}
use Rattle.decoder.proofs.samples.join_block.Goals as goal

-- the filter over the pairs
did : (d : Decoder) (low high samples : List ℤ) {left : List ℤ} {j : Joined} → good_decoder d ≡ true
    → length low ≤ 160 → length high ≡ length low → length samples ≡ 2 * length low
    → all_in_range low ≡ true → all_in_range high ≡ true → Does (join_block d.past low high samples) j left
    → Does (joined d low high) (done j.limited (record { low = d.low; high = d.high; past = j.past })) left
unfolding joined joined_after
did d low high samples good few even room lows highs j =
    let past = parts d good in
    let range : PairsInRange d.past low high = record { past_rl = past.rl; past_rh = past.rh; lows = lows; highs = highs } in
    let q = becomes (join_fits _ _ _ _ (block_fits_lem _ _ _ few room even) range) j in
    record {
      answer = λ i. done (q.answer i).limited (record { low = d.low; high = d.high; past = (q.answer i).past });
      left = q.left;
    }

pub invariant_of-result : goal.invariant_of-result
invariant_of-result c =
    let a = c.args in
    let n = c.requires in
    let by = did a.d.decoder a.low.now a.high.now a.samples.now a.d.good n.low_len_bound n.high_len n.samples_len n.low_value n.high_value
    c.join-joined.ensures in
    record { good = joined_next_good _ a.low.now a.high.now by a.d.good n.low_value n.high_value }

pub returns : goal.returns
returns c =
    let a = c.args in
    let n = c.requires in
    did a.d.decoder a.low.now a.high.now a.samples.now a.d.good n.low_len_bound n.high_len n.samples_len n.low_value n.high_value c.join-joined.ensures
