-- `lanes::plain` meets its contract.
use Rattle.std.proofs.Common.{rules, ◌≡◌, ◌∙◌, sym, ◌≤◌, ◌<◌, pos, length, get_or, arith}
use Rattle.std.proofs.lemmas.List.{length_push}
use Rattle.std.proofs.lemmas.Slice.Zip.{zip_turn, zip_end}
use mathlib.Core.List.{zip_with}
use mir.Facts.{to_z-of_z}
use Rattle.laws.specs.Back.{back32}
use Rattle.laws.specs.Zipped.{zip_at, zip_length}
use Rattle.idle.specs.Plain.{raw}
use Rattle.lanes.specs.Sum.{plain_of}
use Rattle.lanes.proofs.Adding.{none, more, all_fits, high_fits, sum_is, fits_is}
use Rattle.lanes.proofs.plain.Goals as goal

pub loop-b-init : goal.loop-b-init
loop-b-init c = none _

pub loop-b-preserved : goal.loop-b-preserved
loop-b-preserved c =
    let b = c.args.b in
    let d = c.args.d in
    let w = c.raw-w.result in
    let l = c.loop-b in
    let b8 : length b ≡ 8 = search rules in
    let d8 : length d ≡ 8 = search rules in
    let t = zip_turn b d l.yielded c.into_iter-b-iterator.result l.b-iterator c.next.new.self _ (cc) (cc) l.yielded_by (c.in-Some.b, c.in-Some.d) c.in-Some.is c.next.ensures.steps in
    let i : length l.yielded < 8 = omega (arith, t.0) in
    let e : w ≡ get_or (zip_with raw b d) (length l.yielded) (pos 0) =
    search (rules, t.2 (pos 0), t.3 (pos 0), zip_at raw b d (length l.yielded) (b8 ∙ sym d8) t.0) in
    let r = back32 w c.raw-w.type_inv in
    let h = back32 c.positive-high.result c.positive-high.type_inv ∙ c.positive-high.ensures in
    rw (r, h, r, length_push, to_z-of_z (all_fits l.invariant w c.raw-w.ensures.1 i), to_z-of_z (high_fits l.invariant w c.raw-w.ensures.1 i))
    (more l.invariant w c.raw-w.ensures.1 i (omega (arith, zip_length raw b d (b8 ∙ sym d8))) e)

pub returns : goal.returns
unfolding plain_of
returns c =
    let b = c.args.b in
    let d = c.args.d in
    let l = c.loop-b in
    let b8 : length b ≡ 8 = search rules in
    let d8 : length d ≡ 8 = search rules in
    let t = zip_end b d l.yielded c.into_iter-b-iterator.result l.b-iterator c.next.new.self _ (cc) (cc) l.yielded_by c.in-None.is c.next.ensures.steps in
    let k : length (zip_with raw b d) ≤ length l.yielded = omega (arith, t, zip_length raw b d (b8 ∙ sym d8)) in
    λ j. record { sum = sum_is l.invariant k j; whole = (c.whole.ensures ∙ fits_is l.invariant k) j }
