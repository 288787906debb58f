-- `band::filtep` meets its contract.
use Rattle.std.proofs.Common.{rules}
use Rattle.g722.specs.Band.{filtep}
use Rattle.band.proofs.filtep.Goals as goal

pub returns : goal.returns
unfolding filtep
returns c = search rules
