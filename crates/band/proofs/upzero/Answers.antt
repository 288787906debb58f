-- `band::upzero` meets its contract.
use Rattle.std.proofs.Common.{rules}
use Rattle.g722.specs.Band.{upzero}
use Rattle.band.proofs.upzero.Goals as goal

pub returns : goal.returns
unfolding upzero
returns c = search rules
