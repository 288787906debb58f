-- `band::adapt` meets its contract.
use Rattle.std.proofs.Common.{rules}
use Rattle.band.specs.Loop.{adapted}
use Rattle.band.proofs.adapt.Goals as goal

pub returns : goal.returns
unfolding adapted
returns c = search rules
