use Rattle.std.proofs.Common.{refl, ◌∙◌, arith, replicate, pos}
use Rattle.state.proofs.Laws.{values_behind, band_behind}
use Rattle.state.proofs.read.parts.Goals as goal

pub returns : goal.returns
returns c =
    let s = c.args.state.now in
    record {
      low = c.band.ensures ∙ band_behind 0 s;
      high = c.band-2.ensures ∙ band_behind 20 s;
      past = values_behind 40 22 (replicate 22 (pos 0)) s (omega arith) refl c.load.ensures.left;
    }
