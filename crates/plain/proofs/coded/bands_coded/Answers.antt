-- The words fit the octet, and the two bands go on apart.
use Rattle.std.proofs.Common.{◌≡◌, rules}
use Rattle.facts.specs.Sent.{quantl_small, quanth_small}
use Rattle.plain.specs.Step.{low_coded, high_coded}
use Rattle.plain.proofs.Laws.{signals_coded}
use Rattle.plain.proofs.coded.bands_coded.Goals as goal

pub octet-requires : goal.octet-requires
unfolding low_coded high_coded
octet-requires c = (rw c.high_coded-h.ensures (quanth_small _ _), rw c.low_coded-l.ensures (quantl_small _ _))

pub returns : goal.returns
returns c =
    let l : c.low_coded-l.result ≡ low_coded c.args.low c.args.xl = search rules in
    let h : c.high_coded-h.result ≡ high_coded c.args.high c.args.xh = search rules in
    signals_coded c.args.low c.args.high c.args.xl c.args.xh l h c.octet.ensures
