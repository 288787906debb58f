-- `band::uppol2` meets its contract.
use Rattle.std.proofs.Common.{rules}
use Rattle.laws.specs.Clamp.{clamp}
use Rattle.g722.specs.Band.{uppol2}
use Rattle.band.proofs.uppol2.Goals as goal

pub returns : goal.returns
unfolding uppol2 clamp
returns c = search rules
