-- `coder::put_together` meets its contract: the octets so far, and then what is left to put together, are the whole.
use mathlib.Core.Path.{sym, ap, ap₂, ◌∙◌}
use mathlib.Core.List.{List, ◌++◌, zip_with}
use Prim.Native.Nat.{ℕ, ◌≤◌, ◌+◌, ◌<◌}
use native.Mathlib.Omega.{arith}
use lib.ListN.{length, take, drop, length-set, drop_of_length-le}
use Rattle.laws.specs.Turns.{drop_one, put_place, put_all}
use Rattle.coder.specs.ByBand.{together}
use Rattle.coder.proofs.bands.put_together.Goals as goal

pub loop-i-preserved : goal.loop-i-preserved
unfolding zip_with
loop-i-preserved c =
    let words = c.args.words.now in
    let octets = c.loop-i.octets in
    let i = c.loop-i.i in
    let v = c.loop-i.invariant in
    let in_words : i < length words = omega arith in
    let inside : i < length octets = omega arith in
    let rest = ap₂ (zip_with together) (drop_one words i 0 in_words) (drop_one octets i 0 inside) in
    record {
      same_length = length-set octets i _ ∙ v.same_length;
      whole =
          put_place (zip_with together (drop (i + 1) words)) octets i _ inside
          ∙ ap (λ (o : List ℕ). take i octets ++ o) (sym rest)
          ∙ v.whole;
    }

pub returns : goal.returns
unfolding zip_with
returns c =
    let i = c.loop-i.i in
    let words = c.args.words.now in
    let octets = c.loop-i.octets in
    let all : length words ≤ i = omega arith in
    let none = ap (λ (w : List ℕ). zip_with together w (drop i octets)) (drop_of_length-le words all) in
    sym (put_all octets _ i (omega arith) none) ∙ c.loop-i.invariant.whole
