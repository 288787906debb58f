use Rattle.std.proofs.Common.{refl, ap, ◌∙◌, ◌∷◌, ◌++◌, ℕ, arith}
use Rattle.laws.specs.Outcome.{does}
use Rattle.big_endian.specs.Bytes.{pcm_bytes}
use Rattle.state.specs.Layout.{band_values}
use Rattle.state.proofs.Laws.{Front, stored, written, unwritten, all_written}
use Rattle.state.proofs.write.write.Goals as goal

pub returns-then-state-ne-LENGTH : goal.returns-then-state-ne-LENGTH
returns-then-state-ne-LENGTH c = does (unwritten _ _ c.if-state-ne-LENGTH.true) refl refl

pub returns : goal.returns
returns c =
    let p = c.args.parts in
    let f : Front 125 81 (c.first_byte.result ∷ pcm_bytes (band_values p.low ++ band_values p.high)) c.write_bands.new.state =
    record { long = omega arith; is = c.write_bands.ensures } in
    does (written _ _ c.if-state-ne-LENGTH.false) refl
    (all_written c.first_byte.result p.low p.high p.past
    (stored 81 125 p.past f (omega arith) (omega arith) (omega arith) c.store.ensures.left)
    ∙ ap (λ (k : ℕ). k ∷ pcm_bytes (band_values p.low ++ (band_values p.high ++ p.past))) c.first_byte.ensures)
