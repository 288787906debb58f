-- `mirror::join` meets its contract: the pairs of a block that fits are crossed into rows, the rows filtered, and the last pairs kept.
use Rattle.std.proofs.Common.{rules, ◌≡◌, true, ◌/◌, arith, length}
use Rattle.laws.specs.Outcome.{does}
use Rattle.mirror.specs.Block.{block_fits}
use Rattle.mirror.specs.Fitting.{fit_lengths, join_runs}
use Rattle.mirror.proofs.Joining.{join_whole}
use Rattle.mirror.proofs.receive.join.Goals as goal

pub returns : goal.returns
returns c =
    let fit : block_fits (length c.args.samples.now) (length c.args.low.now) (length c.args.high.now) ≡ true = search rules in
    let rl : length c.args.past.rl ≡ 11 = search rules in
    let rh : length c.args.past.rh ≡ 11 = search rules in
    let rows = c.cross.ensures in
    let long = fit_lengths _ _ _ fit in
    let half : length c.args.samples.now / 2 ≡ length c.args.low.now = omega (arith, long.1) in
    let run = rw half at c.join_rows-limited.ensures in
    let d = join_whole _ _ _ rl rh long.2 rows.differences rows.sums run c.last.ensures c.last-2.ensures in
    does (join_runs _ _ _ _ fit) d.answer d.left
