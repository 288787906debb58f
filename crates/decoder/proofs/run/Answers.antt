-- `decoder::run` meets its contract: what was done of the octets so far, and then a block of them, is what is done of so many more.
use mathlib.Core.Path.{◌≡◌, refl, sym, ap, ◌∙◌}
use mathlib.Core.List.{List}
use Prim.Native.Nat.{ℕ, ◌≤◌, ◌*◌, ◌-◌, ◌+◌}
use native.Mathlib.Omega.{arith}
use lib.IntN.{ℤ}
use lib.ListN.{length, take, drop, length-take}
use lib.Seq.{take_all}
use borrow.Rule.Slice.PartMut.{put_mid}
use Rattle.laws.specs.Outcome.{Does, does}
use Rattle.laws.specs.Blocks.{part_long, part_put}
use Rattle.facts.specs.Blocks.{done, decoded_more, decoded_few}
use Rattle.g722.specs.Answers.{Decoded}
use Rattle.g722.specs.Arithmetic.{overloads}
use Rattle.g722.specs.Decoding.{samples_in_full, samples_of, decoder_after, decoded}
use Rattle.g722.specs.declared.Decoder.{Decoder}
use Rattle.decoder.proofs.run.Goals as goal

-- a block behind what was done so far, with its samples behind those that were written
behind : (mode : ℕ) (d : Decoder) (octets : List ℕ) (samples : List ℤ) {at to : ℕ} {r t : Decoded} {y : List ℤ} → at ≤ to
    → 2 * to ≤ length samples → length y ≡ length (take (2 * to - 2 * at) (drop (2 * at) samples))
    → Does (decoded mode d (take at octets)) r (take (2 * at) samples)
    → Does (decoded mode r.next (take (to - at) (drop at octets))) t y
    → Does (decoded mode d (take to octets)) (done (r.limited + t.limited) t.next)
    (take (2 * to) (put_mid (2 * at) (2 * to - 2 * at) samples y))
behind mode d octets samples {at} {to} {y = y} on room same f g =
    let twice : 2 * at ≤ 2 * to = omega arith in
    let more = decoded_more mode d octets on f g in
    record { answer = more.answer; left = part_put twice samples y same room ∙ more.left }

pub loop-at-init : goal.loop-at-init
unfolding decoded samples_of samples_in_full decoder_after overloads
loop-at-init c = record { same_length = refl; so_far = record { answer = refl; left = refl } }

pub overflow_add-limited : goal.overflow_add-limited
overflow_add-limited c =
    let octets = c.args.octets.now in
    let to = c.min-to.result in
    let on : c.loop-at.at ≤ to = omega arith in
    let more = decoded_more _ _ octets on c.loop-at.invariant.so_far c.block-done.ensures in
    omega (arith, decoded_few _ _ (take to octets) more, length-take to octets)

-- not the last block
pub loop-at-preserved : goal.loop-at-preserved
loop-at-preserved c =
    let a = c.args in
    let v = c.loop-at.invariant in
    let samples = c.loop-at.samples in
    let same = c.block-done.auto.samples in
    let to : c.loop-at.at + 160 ≡ c.min-to.result = omega arith in
    record {
      same_length = part_long (omega arith) samples c.block-done.new.samples same ∙ v.same_length;
      so_far = rw to (behind a.mode a.d.decoder a.octets.now samples (omega arith) (omega arith) same v.so_far c.block-done.ensures);
    }

-- the last
pub returns-2 : goal.returns-2
returns-2 c =
    let a = c.args in
    let samples = c.loop-at.samples in
    let to = c.min-to.result in
    let same = c.block-done.auto.samples in
    let more = behind a.mode a.d.decoder a.octets.now samples (omega arith) (omega arith) same c.loop-at.invariant.so_far c.block-done.ensures in
    let all = take_all to a.octets.now (omega arith) in
    let long = part_long (omega arith) samples c.block-done.new.samples same in
    let full = take_all (2 * to) _ (omega (arith, long)) in
    does (ap (decoded a.mode a.d.decoder) (sym all)) more.answer (sym full ∙ more.left)
