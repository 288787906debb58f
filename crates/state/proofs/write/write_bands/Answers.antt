-- Each part stands behind those before it.
use Rattle.std.proofs.Common.{ap, sym, ◌∙◌, List, ◌∷◌, ◌++◌, ℕ, arith}
use Rattle.big_endian.specs.Bytes.{bytes_join}
use Rattle.state.specs.Layout.{band_values}
use Rattle.state.proofs.Laws.{first, further}
use Rattle.state.proofs.write.write_bands.Goals as goal

pub returns : goal.returns
returns c =
    let a = c.args in
    let y = c.write_band.new.bytes in
    let z = c.write_band-2.new.bytes in
    let f = first 125 a.kind a.state.now (omega arith) c.requires in
    let low = further 1 41 y f (omega arith) (omega arith) (omega arith) in
    let high = further 41 81 z low (omega arith) (omega arith) (omega arith) in
    high.is ∙ ap (λ (x : List ℕ). a.kind ∷ x)
    ((λ i. c.write_band.ensures i ++ c.write_band-2.ensures i) ∙ sym (bytes_join (band_values a.low) (band_values a.high)))
