-- `band::turned` meets its contract.
use Rattle.std.proofs.Common.{rules}
use Rattle.g722.specs.Band.{turned}
use Rattle.band.proofs.turned.Goals as goal

pub returns : goal.returns
unfolding turned
returns c = search rules
