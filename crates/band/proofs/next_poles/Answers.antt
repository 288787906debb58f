-- `band::next_poles` meets its contract.
use Rattle.std.proofs.Common.{rules}
use Rattle.g722.specs.Band.{next_poles}
use Rattle.band.proofs.next_poles.Goals as goal

pub returns : goal.returns
unfolding next_poles
returns c = search rules
