-- `band::uppol1` meets its contract.
use Rattle.std.proofs.Common.{rules}
use Rattle.g722.specs.Band.{uppol1, reach}
use Rattle.band.proofs.uppol1.Goals as goal

pub returns : goal.returns
unfolding uppol1 reach
returns c = search rules
