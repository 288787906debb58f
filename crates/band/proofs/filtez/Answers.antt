-- `band::filtez` meets its contract: its fold is the chain of sums.
use Rattle.std.proofs.Common.{rules, ℤ, pos}
use Rattle.std.proofs.lemmas.Iterator.{YieldsList-from_slice, YieldsList-from_zip}
use Rattle.std.proofs.lemmas.Iterator.Consumers.{fold_from_yields_List}
use Rattle.g722.specs.Arithmetic.{add}
use Rattle.g722.specs.Band.{filtez, term}
use Rattle.band.proofs.Laws.{summed}
use Rattle.band.proofs.filtez.Goals as goal

pub returns : goal.returns
unfolding filtez
returns c =
    let z = c.args.z in
    let sum = fold_from_yields_List _ (λ (u : ℤ) p. add u (term p.0 p.1)) (pos 0) c.fold.result c.fold.ensures.ran
    (YieldsList-from_zip (YieldsList-from_slice z.b cc) (YieldsList-from_slice z.d cc)) (λ a x r q k. search rules) in
    search (rules, sum, summed (pos 0) z.b z.d)
