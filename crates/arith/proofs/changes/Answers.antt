-- `arith::changes` meets its contract.
use Rattle.std.proofs.Common.{rules}
use Rattle.g722.specs.Arithmetic.{changes}
use Rattle.arith.proofs.changes.Goals as goal

pub returns : goal.returns
unfolding changes
returns c = search rules
