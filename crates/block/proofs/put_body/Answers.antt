-- Each part stands behind those before it.
use mathlib.Core.List.{◌++◌}
use Rattle.std.proofs.Common.{◌≡◌, sym, ap, ◌∙◌, ℕ, ◌+◌, ◌-◌, arith, length, take, drop, length-append, length-drop, ◌≤◌}
use lib.ListN.{replicate, length-replicate}
use lib.Seq.{take_at, take_all}
use borrow.Rule.Slice.PartMut.{put_mid, mid_len}
use Rattle.block.specs.Layout.{head, body}
use Rattle.laws.specs.Blocks.{part_long}
use Rattle.laws.specs.Parts.{behind}
use Rattle.block.proofs.put_body.Goals as goal

pub returns : goal.returns
unfolding body
returns c =
    let a = c.args in
    let octets = a.octets.now in
    let end = 12 + length octets in
    let first = head a.take a.block a.mode (length octets) in
    let hs = c.copy_from_slice.new.self in
    let os = c.copy_from_slice-2.new.self in
    let zs = c.fill.new.self in
    let l1 = hs ++ drop 12 a.to.now in
    let l2 = put_mid 12 (end - 12) l1 os in
    let l3 = put_mid end (510 - end) l2 zs in
    let eh : hs ≡ first = rw c.copy_from_slice.ensures.after c.head.ensures in
    let eo : os ≡ octets = c.copy_from_slice-2.ensures.after in
    let n1 : length l1 ≡ 510 = rw (length-append hs (drop 12 a.to.now), length-drop 12 a.to.now) (omega (arith, ap length eh, c.requires.0)) in
    let below : 12 ≤ end = omega arith in
    let above : end ≤ 510 = omega (arith, c.requires.1) in
    let n2 : length l2 ≡ 510 = part_long below l1 os c.copy_from_slice-2.ensures.len ∙ n1 in
    let ez : zs ≡ replicate (510 - end) 0 = c.fill.ensures.after (λ y e. e) ∙ ap (λ (n : ℕ). replicate n 0) (mid_len end 510 l2 (omega (arith, n2))) in
    let n3 : length l3 ≡ 510 = part_long above l2 zs c.fill.ensures.len ∙ n2 in
    let lo : length os ≡ end - 12 = ap length eo ∙ omega arith in
    let lz : length zs ≡ 510 - end = ap length ez ∙ length-replicate (510 - end) 0 in
    let p1 : take 12 l1 ≡ first = take_at hs (drop 12 a.to.now) 12 (ap length eh) ∙ eh in
    let p2 = behind 12 end l1 os first (omega arith) (omega arith) lo p1 in
    sym (take_all 510 l3 (omega arith)) ∙ behind end 510 l2 zs (first ++ os) (omega arith) (omega arith) lz p2 ∙ rw (eo, ez)
