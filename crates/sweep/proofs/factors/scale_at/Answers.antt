-- `sweep::factors::scale_at` meets its contract: the entry of ILB, shifted, is what method 1 gives.
use Rattle.std.proofs.Common.{rules, ap, List, ℕ, ◌%◌, get_or, arith}
use Rattle.g722.specs.Quantise.{scale_at}
use Rattle.tables.specs.Entries.{ila_small}
use Rattle.tables.specs.Rows.{by_method_2}
use Rattle.sweep.proofs.factors.scale_at.Goals as goal

pub returns : goal.returns
unfolding scale_at
returns c =
    let k = c.args.k in
    let x = get_or c.args.table.now (k % 32) 0 in
    let e = by_method_2 k x (omega arith) (ap (λ (l : List ℕ). get_or l (k % 32) 0) c.requires.table_value) in
    search (rules, e, ila_small k)
