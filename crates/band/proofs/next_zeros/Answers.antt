-- `band::next_zeros` meets its contract.
use Rattle.std.proofs.Common.{rules}
use Rattle.g722.specs.Band.{next_zeros}
use Rattle.band.proofs.next_zeros.Goals as goal

pub returns : goal.returns
unfolding next_zeros
returns c = search rules
