-- `decoder::hear_all` meets its contract: what was done of the octets so far, and then a block of them, is what is done of so many more.
use mathlib.Core.Path.{◌≡◌, refl, sym, ap, ◌∙◌}
use mathlib.Core.List.{List}
use Prim.Native.Nat.{ℕ, ◌≤◌, ◌-◌, ◌+◌}
use native.Mathlib.Omega.{arith}
use lib.IntN.{ℤ}
use lib.ListN.{length, take, drop, length-take}
use lib.Seq.{take_all}
use borrow.Rule.Slice.PartMut.{put_mid}
use Rattle.laws.specs.Outcome.{Does, does}
use Rattle.laws.specs.Blocks.{part_long, part_put}
use Rattle.facts.specs.Blocks.{done, heard_more, heard_few}
use Rattle.g722.specs.Answers.{Decoded}
use Rattle.g722.specs.Arithmetic.{overloads}
use Rattle.g722.specs.Steps.{signals_of, band_after, yls_of, yhs_of, rls_of, rhs_of, heard_after, heard}
use Rattle.g722.specs.declared.Decoder.{Decoder}
use Rattle.decoder.proofs.signals.hear_all.Goals as goal

-- a block behind what was done so far, with its signals behind those that were written
behind : (mode : ℕ) (d : Decoder) (octets : List ℕ) (low high : List ℤ) {at to : ℕ} {r t : Decoded} {x y : List ℤ} → at ≤ to
    → to ≤ length low → to ≤ length high
    → length x ≡ length (take (to - at) (drop at low)) → length y ≡ length (take (to - at) (drop at high))
    → Does (heard mode d (take at octets)) r (take at low, take at high)
    → Does (heard mode r.next (take (to - at) (drop at octets))) t (x, y)
    → Does (heard mode d (take to octets)) (done (r.limited + t.limited) t.next)
    (take to (put_mid at (to - at) low x), take to (put_mid at (to - at) high y))
behind mode d octets low high {x = x} {y = y} on low-room high-room k m f g =
    let more = heard_more mode d octets on f g in
    record { answer = more.answer; left = (λ i. (part_put on low x k low-room i, part_put on high y m high-room i)) ∙ more.left }

pub loop-at-init : goal.loop-at-init
unfolding heard heard_after yls_of yhs_of rls_of rhs_of signals_of band_after overloads
loop-at-init c = record { low_length = refl; high_length = refl; so_far = record { answer = refl; left = refl } }

pub overflow_add-limited : goal.overflow_add-limited
overflow_add-limited c =
    let octets = c.args.octets.now in
    let to = c.min-to.result in
    let on : c.loop-at.at ≤ to = omega arith in
    let more = heard_more _ _ octets on c.loop-at.invariant.so_far c.hear_block-done.ensures in
    omega (arith, heard_few _ _ (take to octets) more, length-take to octets)

-- not the last block
pub loop-at-preserved : goal.loop-at-preserved
loop-at-preserved c =
    let a = c.args in
    let v = c.loop-at.invariant in
    let low = c.loop-at.low in
    let high = c.loop-at.high in
    let k = c.hear_block-done.auto.low in
    let m = c.hear_block-done.auto.high in
    let to : c.loop-at.at + 160 ≡ c.min-to.result = omega arith in
    record {
      low_length = part_long (omega arith) low c.hear_block-done.new.low k ∙ v.low_length;
      high_length = part_long (omega arith) high c.hear_block-done.new.high m ∙ v.high_length;
      so_far =
          rw to
          (behind a.mode a.d.decoder a.octets.now low high (omega arith) (omega arith) (omega arith) k m v.so_far c.hear_block-done.ensures);
    }

-- the last
pub returns-2 : goal.returns-2
returns-2 c =
    let a = c.args in
    let low = c.loop-at.low in
    let high = c.loop-at.high in
    let k = c.hear_block-done.auto.low in
    let m = c.hear_block-done.auto.high in
    let to = c.min-to.result in
    let more =
    behind a.mode a.d.decoder a.octets.now low high (omega arith) (omega arith) (omega arith) k m c.loop-at.invariant.so_far
    c.hear_block-done.ensures in
    let all = take_all to a.octets.now (omega arith) in
    let low-long = part_long (omega arith) low c.hear_block-done.new.low k in
    let high-long = part_long (omega arith) high c.hear_block-done.new.high m in
    let lows = take_all to _ (omega (arith, low-long)) in
    let highs = take_all to _ (omega (arith, high-long)) in
    does (ap (heard a.mode a.d.decoder) (sym all)) more.answer ((λ i. (sym lows i, sym highs i)) ∙ more.left)
