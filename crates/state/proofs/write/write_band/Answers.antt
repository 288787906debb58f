-- Each part stands behind those before it.
use Rattle.std.proofs.Common.{◌≡◌, refl, List, [], ◌∷◌, ℤ, ap, ◌∙◌, arith, rules}
use borrow.Rule.Slice.PartMut.{mid_of, put_mid}
use Rattle.laws.specs.Back.{back16}
use Rattle.big_endian.specs.Bytes.{store_call}
use Rattle.state.proofs.Laws.{Front, stored, band_written}
use Rattle.state.proofs.write.write_band.Goals as goal

pub returns : goal.returns
returns c =
    let s = c.args.s in
    let p = s.poles in
    let f = s.factors in
    let f0 : Front 40 0 [] c.args.bytes.now = record { long = c.requires; is = refl } in
    let f1 = stored 0 12 s.zeros.b f0 (omega arith) (omega arith) (omega arith) c.store.ensures.left in
    let f2 = stored 12 24 s.zeros.d f1 (omega arith) (omega arith) (omega arith) c.store-2.ensures.left in
    let behind = put_mid 12 12 (put_mid 0 12 c.args.bytes.now c.store.new.bytes) c.store-2.new.bytes in
    let rest : _ ≡ _ = λ i.
    back16 p.a1 (search rules) i
    ∷ back16 p.a2 (search rules) i
    ∷ back16 p.r1 (search rules) i
    ∷ back16 p.r2 (search rules) i
    ∷ back16 p.p1 (search rules) i
    ∷ back16 p.p2 (search rules) i
    ∷ back16 f.log (search rules) i
    ∷ back16 f.scale (search rules) i
    ∷ [] in
    band_written s (stored 24 40 _ f2 (omega arith) (omega arith) refl
    (c.store-3.ensures.left ∙ ap (λ (v : List ℤ). (store_call v (mid_of 24 16 behind)).left) rest))
