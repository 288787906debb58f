-- `band::estimate` meets its contract.
use Rattle.std.proofs.Common.{rules}
use Rattle.g722.specs.Band.{predic}
use Rattle.band.specs.Loop.{estimated}
use Rattle.band.proofs.estimate.Goals as goal

pub returns : goal.returns
unfolding estimated predic
returns c = search rules
