-- `block::put` meets its contract: the check stands behind the body.
use Rattle.std.proofs.Common.{◌≡◌, refl, sym, ◌∙◌, arith, ◌≤◌, ◌++◌, length, take, drop, take_at, take_all}
use borrow.Rule.Slice.PartMut.{put_mid}
use Rattle.big_endian.specs.Numbers.{two_bytes}
use Rattle.block.specs.Check.{check}
use Rattle.block.specs.Layout.{body, block_of}
use Rattle.laws.specs.Parts.{behind}
use Rattle.block.proofs.put.Goals as goal

pub returns : goal.returns
unfolding block_of
returns c =
    let a = c.args in
    let b = body a.take a.block a.mode a.octets.now in
    let bs = c.put_body.new.to in
    let l = bs ++ drop 510 a.out.now in
    let n : length bs ≡ 510 = omega arith in
    let e : take 510 l ≡ b = rw (take_at bs (drop 510 a.out.now) 510 n) c.put_body.ensures in
    let ys = c.copy_from_slice.new.self in
    let f : ys ≡ two_bytes (check b) = c.copy_from_slice.ensures.after ∙ c.to_be_bytes.ensures ∙ rw (c.check-sum.ensures, e) refl in
    let whole : length (put_mid 510 2 l ys) ≤ 512 = omega arith in
    sym (take_all 512 (put_mid 510 2 l ys) whole) ∙ behind 510 512 l ys b (omega arith) (omega arith) (omega arith) e ∙ rw f
