-- `band::term` meets its contract.
use Rattle.std.proofs.Common.{rules}
use Rattle.g722.specs.Band.{term}
use Rattle.band.proofs.term.Goals as goal

pub returns : goal.returns
unfolding term
returns c = search rules
