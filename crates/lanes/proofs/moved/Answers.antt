-- `lanes::moved` meets its contract: a side times the gain is the gain with its sign.
use Rattle.std.proofs.Common.{rules}
use Rattle.g722.specs.Arithmetic.{negative}
use Rattle.lanes.proofs.Sides.{sided, sided_fits}
use Rattle.lanes.proofs.moved.Goals as goal

pub returns : goal.returns
returns c =
    let t = negative c.args.past in
    search (rules, sided t c.args.g, sided_fits t c.args.g c.requires)
