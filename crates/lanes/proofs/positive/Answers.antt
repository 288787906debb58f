-- `lanes::positive` meets its contract.
use Rattle.std.proofs.Common.{rules}
use Rattle.lanes.proofs.Adding.{above}
use Rattle.lanes.proofs.positive.Goals as goal

pub returns : goal.returns
returns c = search (rules, above)
