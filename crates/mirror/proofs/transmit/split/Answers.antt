-- `mirror::split` meets its contract: a block that fits is laid out in rows, filtered, and its last pairs kept.
use Rattle.std.proofs.Common.{rules, ◌≡◌, true, length}
use Rattle.laws.specs.Outcome.{does}
use Rattle.mirror.specs.Block.{block_fits}
use Rattle.mirror.specs.Fitting.{fit_lengths, split_fits}
use Rattle.mirror.proofs.Splitting.{split_whole}
use Rattle.mirror.proofs.transmit.split.Goals as goal

pub returns : goal.returns
returns c =
    let fit : block_fits (length c.args.samples.now) (length c.args.low.now) (length c.args.high.now) ≡ true = search rules in
    let past : length c.args.past ≡ 22 = search rules in
    let n = (fit_lengths _ _ _ fit).1 in
    let d = split_whole _ _ _ past n c.deal.ensures c.deal-2.ensures c.split_rows-limited.ensures c.kept.ensures in
    does (split_fits _ _ _ _ fit) d.answer d.left
