-- `decoder::limit_all` meets its contract: the signals so far, and then those that are left to limit, are the whole.
use mathlib.Core.Path.{◌≡◌, refl, sym, ap, ◌∙◌}
use mathlib.Core.Bool.{Bool, true, false}
use mathlib.Core.List.{List, ◌∷◌, ◌++◌, map}
use Prim.Native.Nat.{◌≤◌, ◌+◌, ◌<◌}
use native.Mathlib.Omega.{arith}
use borrow.Author.Rules.{rules}
use mir.Val.{bool_byte}
use lib.IntN.{ℤ, pos}
use lib.ListN.{length, take, drop, get_or, drop_of_length-le}
use Rattle.laws.specs.Back.{back16, back32}
use Rattle.laws.specs.Turns.{drop_one, still, put_place, put_all}
use Rattle.facts.specs.Overload.{overloads_most}
use Rattle.g722.specs.Arithmetic.{limit, limited, one, overloads}
use Rattle.g722.specs.declared.Limited.{Limited}
use Rattle.decoder.proofs.signals.limit_all.Goals as goal

-- how a test is counted
as_one : (t : Bool) → bool_byte t ≡ one t
as_one true = refl
as_one false = refl

-- a signal's turn
module _ (c : goal.After-from-limited) where
  abbrev z : ℤ
  z = get_or c.loop-signal.signal-items c.loop-signal.signal-index (pos 0)

  inside : c.loop-signal.signal-index < length c.loop-signal.signal-items
  inside = omega arith

  is : c.limit-kept.result ≡ limited z
  is =
      c.limit-kept.ensures
      ∙ ap limited (back32 c.from.result c.from.type_inv ∙ c.from.ensures ∙ back16 z (search rules))

  counted : c.loop-signal.limited + c.from-limited.result + overloads (drop (c.loop-signal.signal-index + 1) c.loop-signal.signal-items)
      ≡ overloads c.args.x.now
  unfolding overloads
  counted =
      let n = c.from-limited.ensures ∙ as_one c.limit-kept.result.changed ∙ ap (λ (l : Limited). one l.changed) is in
      let rest = drop_one c.loop-signal.signal-items c.loop-signal.signal-index (pos 0) inside in
      omega (arith, c.loop-signal.invariant.counted, ap overloads rest, n)

-- no more are counted than there are
pub overflow_add-limited : goal.overflow_add-limited
overflow_add-limited c = omega (arith, counted c, overloads_most c.args.x.now)

pub loop-signal-preserved : goal.loop-signal-preserved
unfolding limited
loop-signal-preserved c =
    let x = c.loop-signal.signal-items in
    let i = c.loop-signal.signal-index in
    let value = back16 c.limit-kept.result.value (search rules) ∙ ap (λ (l : Limited). l.value) (is c) in
    record {
      written =
          put_place (map limit) x i _ (inside c)
          ∙ ap (λ (y : ℤ). take i x ++ y ∷ map limit (drop (i + 1) x)) value
          ∙ ap (λ (l : List ℤ). take i x ++ map limit l) (sym (drop_one x i (pos 0) (inside c)))
          ∙ c.loop-signal.invariant.written;
      counted =
          ap (λ (l : List ℤ). c.loop-signal.limited + c.from-limited.result + overloads l) (still x i _) ∙ counted c;
    }

pub returns : goal.returns
unfolding overloads
returns c =
    let i = c.loop-signal.signal-index in
    let x = c.loop-signal.signal-items in
    let all : length x ≤ i = omega arith in
    let none = drop_of_length-le x all in (
      omega (arith, c.loop-signal.invariant.counted, ap overloads none),
      sym (put_all x _ i (omega arith) (ap (map limit) none)) ∙ c.loop-signal.invariant.written,
    )
