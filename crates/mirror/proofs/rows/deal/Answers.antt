-- `mirror::deal` meets its contract: of the past samples and then of the new ones every second is copied.
use Rattle.std.proofs.Common.{rules, ◌≡◌, arith, length}
use Rattle.mirror.proofs.Loops.{dealt}
use Rattle.mirror.proofs.rows.deal.Goals as goal

pub returns : goal.returns
returns c =
    let a = c.args in
    let n = c.requires in
    let row : length a.row.now ≡ 171 = search rules in
    let past : length a.past.now ≡ 22 = search rules in
    dealt a.past.now a.samples.now a.phase a.row.now row past n.samples_len_bound n.phase_bound (omega arith) c.every_second.ensures
    c.every_second-2.ensures
