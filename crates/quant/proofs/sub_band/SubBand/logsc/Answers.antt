-- The top is that of the band's own.
use Rattle.std.proofs.Common.{rules}
use Rattle.g722.specs.Quantise.{logsc}
use Rattle.quant.proofs.sub_band.SubBand.logsc.Goals as goal

pub returns : goal.returns
unfolding logsc
returns g c = let top = g.met.Self.SubBand.top_own in search (rules, top)
