-- `coder::run` meets its contract: what was done of the pairs so far, and then a block of them, is what is done of so many more.
use mathlib.Core.Path.{◌≡◌, refl, sym, ap, ◌∙◌}
use mathlib.Core.List.{List}
use Prim.Native.Nat.{ℕ, ◌≤◌, ◌*◌, ◌-◌, ◌+◌}
use native.Mathlib.Omega.{arith}
use lib.ListN.{length, take, drop, length-take}
use lib.Seq.{take_all}
use lib.IntN.{ℤ}
use borrow.Rule.Slice.PartMut.{put_mid}
use Rattle.g722.specs.Answers.{Coded}
use Rattle.g722.specs.declared.Coder.{Coder}
use Rattle.laws.specs.Outcome.{Does, does}
use Rattle.laws.specs.Blocks.{part_long, part_put}
use Rattle.facts.specs.Range.{range_take, range_drop}
use Rattle.facts.specs.Blocks.{coder_done, coded_more, coded_few}
use Rattle.g722.specs.Arithmetic.{overloads}
use Rattle.g722.specs.Coding.{octets_of, coder_after, split_in_full, coded}
use Rattle.coder.proofs.run.Goals as goal

-- a block behind what was done so far, with its octets behind those that were written
behind : (c : Coder) (samples : List ℤ) (octets : List ℕ) {at to : ℕ} {r t : Coded} {y : List ℕ} → at ≤ to → to ≤ length octets
    → 2 * at ≤ length samples → length y ≡ length (take (to - at) (drop at octets)) → Does (coded c (take (2 * at) samples)) r (take at octets)
    → Does (coded r.next (take (2 * to - 2 * at) (drop (2 * at) samples))) t y
    → Does (coded c (take (2 * to) samples)) (coder_done (r.limited + t.limited) t.next) (take to (put_mid at (to - at) octets y))
behind c samples octets {y = y} on room within same f g =
    let more = coded_more c samples on within f g in
    record { answer = more.answer; left = part_put on octets y same room ∙ more.left }

pub loop-at-init : goal.loop-at-init
unfolding coded octets_of coder_after split_in_full overloads
loop-at-init c = record { same_length = refl; so_far = record { answer = refl; left = refl } }

pub block-done-requires-clause-samples_value : goal.block-done-requires-clause-samples_value
block-done-requires-clause-samples_value c =
    let samples = c.args.samples.now in
    let n = 2 * c.loop-at.at in
    range_take (2 * c.min-to.result - n) (drop n samples) (range_drop n samples c.requires.samples_value)

pub overflow_add-limited : goal.overflow_add-limited
overflow_add-limited c =
    let samples = c.args.samples.now in
    let to = c.min-to.result in
    let more =
    behind c.args.c.coder samples c.loop-at.octets (omega arith) (omega arith) (omega arith) c.block-done.auto.octets c.loop-at.invariant.so_far
    c.block-done.ensures in
    omega (arith, coded_few _ (take (2 * to) samples) more, length-take (2 * to) samples)

-- not the last block
pub loop-at-preserved : goal.loop-at-preserved
loop-at-preserved c =
    let octets = c.loop-at.octets in
    let at = c.loop-at.at in
    let to : at + 160 ≡ c.min-to.result = omega arith in
    let long = part_long (omega arith) octets c.block-done.new.octets c.block-done.auto.octets in
    record {
      same_length = long ∙ c.loop-at.invariant.same_length;
      so_far =
          rw to
          (behind c.args.c.coder c.args.samples.now octets (omega arith) (omega arith) (omega arith) c.block-done.auto.octets c.loop-at.invariant.so_far
          c.block-done.ensures);
    }

-- the last
pub returns-2 : goal.returns-2
returns-2 c =
    let samples = c.args.samples.now in
    let octets = c.loop-at.octets in
    let to = c.min-to.result in
    let more =
    behind c.args.c.coder samples octets (omega arith) (omega arith) (omega arith) c.block-done.auto.octets c.loop-at.invariant.so_far
    c.block-done.ensures in
    let all = take_all (2 * to) samples (omega arith) in
    let long = part_long (omega arith) octets c.block-done.new.octets c.block-done.auto.octets in
    let full = take_all to _ (omega (arith, long)) in
    does (ap (coded c.args.c.coder) (sym all)) more.answer (sym full ∙ more.left)
