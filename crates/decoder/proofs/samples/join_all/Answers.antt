-- `decoder::join_all` meets its contract: what was done of the pairs so far, and then a block of them, is what is done of so many more.
use mathlib.Core.Path.{◌≡◌, refl, sym, ◌∙◌}
use mathlib.Core.List.{List}
use Prim.Native.Nat.{ℕ, ◌≤◌, ◌*◌, ◌-◌, ◌+◌}
use native.Mathlib.Omega.{arith}
use lib.IntN.{ℤ}
use lib.ListN.{length, take, drop, length-take}
use lib.Seq.{take_all}
use borrow.Rule.Slice.PartMut.{put_mid}
use Rattle.laws.specs.Outcome.{Does, does}
use Rattle.laws.specs.Blocks.{part_long, part_put}
use Rattle.facts.specs.Range.{range_take, range_drop}
use Rattle.facts.specs.Blocks.{done, joined_more, joined_few}
use Rattle.g722.specs.Answers.{Decoded}
use Rattle.g722.specs.Arithmetic.{overloads}
use Rattle.g722.specs.Steps.{joined_in_full, joined_of, pairs_after, joined_after, joined}
use Rattle.g722.specs.declared.Decoder.{Decoder}
use Rattle.decoder.proofs.samples.join_all.Goals as goal

-- a block behind what was done so far, with its samples behind those that were written
behind : (d : Decoder) (low high samples : List ℤ) {at to : ℕ} {r t : Decoded} {y : List ℤ} → at ≤ to
    → 2 * to ≤ length samples → length y ≡ length (take (2 * to - 2 * at) (drop (2 * at) samples)) → length high ≡ length low
    → Does (joined d (take at low) (take at high)) r (take (2 * at) samples)
    → Does (joined r.next (take (to - at) (drop at low)) (take (to - at) (drop at high))) t y
    → Does (joined d (take to low) (take to high)) (done (r.limited + t.limited) t.next)
    (take (2 * to) (put_mid (2 * at) (2 * to - 2 * at) samples y))
behind d low high samples {at} {to} {y = y} on room same even f g =
    let twice : 2 * at ≤ 2 * to = omega arith in
    let beside : length (take at high) ≡ length (take at low) = omega (arith, length-take at high, length-take at low) in
    let more = joined_more d low high on beside f g in
    record { answer = more.answer; left = part_put twice samples y same room ∙ more.left }

pub loop-at-init : goal.loop-at-init
unfolding joined joined_of joined_in_full joined_after pairs_after overloads
loop-at-init c = record { same_length = refl; so_far = record { answer = refl; left = refl } }

pub join_block-done-requires-clause-low_value : goal.join_block-done-requires-clause-low_value
join_block-done-requires-clause-low_value c =
    let low = c.args.low.now in
    let at = c.loop-at.at in
    range_take (c.min-to.result - at) (drop at low) (range_drop at low c.requires.low_value)

pub join_block-done-requires-clause-high_value : goal.join_block-done-requires-clause-high_value
join_block-done-requires-clause-high_value c =
    let high = c.args.high.now in
    let at = c.loop-at.at in
    range_take (c.min-to.result - at) (drop at high) (range_drop at high c.requires.high_value)

pub overflow_add-limited : goal.overflow_add-limited
overflow_add-limited c =
    let low = c.args.low.now in
    let high = c.args.high.now in
    let to = c.min-to.result in
    let same = c.join_block-done.auto.samples in
    let more =
    behind c.args.d.decoder low high c.loop-at.samples (omega arith) (omega arith) same c.requires.high_len c.loop-at.invariant.so_far
    c.join_block-done.ensures in
    omega (arith, joined_few _ (take to low) (take to high) more, length-take to low)

-- not the last block
pub loop-at-preserved : goal.loop-at-preserved
loop-at-preserved c =
    let a = c.args in
    let v = c.loop-at.invariant in
    let samples = c.loop-at.samples in
    let same = c.join_block-done.auto.samples in
    let to : c.loop-at.at + 160 ≡ c.min-to.result = omega arith in
    record {
      same_length = part_long (omega arith) samples c.join_block-done.new.samples same ∙ v.same_length;
      so_far =
          rw to
          (behind a.d.decoder a.low.now a.high.now samples (omega arith) (omega arith) same c.requires.high_len v.so_far c.join_block-done.ensures);
    }

-- the last
pub returns-2 : goal.returns-2
returns-2 c =
    let a = c.args in
    let samples = c.loop-at.samples in
    let to = c.min-to.result in
    let same = c.join_block-done.auto.samples in
    let more =
    behind a.d.decoder a.low.now a.high.now samples (omega arith) (omega arith) same c.requires.high_len c.loop-at.invariant.so_far
    c.join_block-done.ensures in
    let low = take_all to a.low.now (omega arith) in
    let high = take_all to a.high.now (omega arith) in
    let long = part_long (omega arith) samples c.join_block-done.new.samples same in
    let full = take_all (2 * to) _ (omega (arith, long)) in
    does (λ i. joined a.d.decoder (sym low i) (sym high i)) more.answer (sym full ∙ more.left)
