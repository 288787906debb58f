-- `band::four` meets its contract.
use Rattle.std.proofs.Common.{rules}
use Rattle.g722.specs.Band.{four}
use Rattle.band.proofs.four.Goals as goal

pub returns : goal.returns
unfolding four
returns c = search rules
