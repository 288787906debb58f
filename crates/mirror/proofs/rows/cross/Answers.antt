-- `mirror::cross` meets its contract: the past pairs are laid out, and then the new ones.
use Rattle.std.proofs.Common.{rules, ◌≡◌, arith, length}
use Rattle.g722.specs.Arithmetic.{add, sub}
use Rattle.mirror.proofs.Loops.{crossed}
use Rattle.mirror.proofs.rows.cross.Goals as goal

pub returns-clause-differences : goal.returns-clause-differences
returns-clause-differences c =
    let a = c.args in
    let p = a.past.now in
    let rl : length p.rl ≡ 11 = search rules in
    let rh : length p.rh ≡ 11 = search rules in
    let xd : length a.xd.now ≡ 171 = search rules in
    crossed sub p.rl p.rh a.low.now a.high.now a.xd.now rl rh xd c.requires.low_len_bound (omega arith)
    c.differences_and_sums.ensures.differences c.differences_and_sums-2.ensures.differences

pub returns-clause-sums : goal.returns-clause-sums
returns-clause-sums c =
    let a = c.args in
    let p = a.past.now in
    let rl : length p.rl ≡ 11 = search rules in
    let rh : length p.rh ≡ 11 = search rules in
    let xs : length a.xs.now ≡ 171 = search rules in
    crossed add p.rl p.rh a.low.now a.high.now a.xs.now rl rh xs c.requires.low_len_bound (omega arith)
    c.differences_and_sums.ensures.sums c.differences_and_sums-2.ensures.sums
