-- Each part's values are those of the definition.
use Rattle.std.proofs.Common.{refl, ◌∙◌, arith, rules, replicate, pos}
use Rattle.laws.specs.Back.{back16}
use Rattle.big_endian.specs.Bytes.{pcm_samples}
use Rattle.state.specs.Layout.{value}
use Rattle.state.proofs.Laws.{values_at, band_read}
use Rattle.state.proofs.read.band.Goals as goal

pub returns : goal.returns
returns c =
    let s = c.args.bytes.now in
    let rest = c.load-3.new.samples in
    (λ i. record {
      zeros = record { b = c.load.new.samples; d = c.load-2.new.samples };
      poles = record {
        a1 = back16 (value rest 0) (search rules) i;
        a2 = back16 (value rest 1) (search rules) i;
        r1 = back16 (value rest 2) (search rules) i;
        r2 = back16 (value rest 3) (search rules) i;
        p1 = back16 (value rest 4) (search rules) i;
        p2 = back16 (value rest 5) (search rules) i;
      };
      factors = record { log = back16 (value rest 6) (search rules) i; scale = back16 (value rest 7) (search rules) i };
    })
    ∙ band_read (pcm_samples s)
    (values_at 0 6 (replicate 6 (pos 0)) s (omega arith) refl c.load.ensures.left)
    (values_at 6 6 (replicate 6 (pos 0)) s (omega arith) refl c.load-2.ensures.left)
    (values_at 12 8 (replicate 8 (pos 0)) s (omega arith) refl c.load-3.ensures.left)
