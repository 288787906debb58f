-- `band::slide` meets its contract.
use Rattle.std.proofs.Common.{rules}
use Rattle.band.proofs.Laws.{slid}
use Rattle.band.proofs.slide.Goals as goal

pub returns : goal.returns
returns c = search (rules, slid)
