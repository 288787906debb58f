-- What the coder sends: its words have six and two bits, so the octet holds both, and gives them back.
-- Assumes nothing.
use Rattle.std.specs.Prelude.{◌≡◌, ℕ, ◌≤◌, ◌<◌, ltb, ℤ}
use Rattle.std.proofs.Common.{arith}
use Rattle.std.proofs.Math.Pow.{high, low}
use Rattle.laws.specs.Order.{by_test}
use Rattle.g722.specs.Words.{to_six, to_two}
use Rattle.g722.specs.Quantise.{quantise, quantl, quanth}
use Rattle.g722.specs.Octet.{octet, high_word, low_word}
use Rattle.g722.specs.declared.Interval.{Interval}

six_small : (v : Interval) → 1 ≤ v.number → to_six v < 64
unfolding to_six
six_small v h =
    by_test v.negative
    (λ e. rw e (by_test (ltb v.number 3) (λ f. rw f (omega arith)) (λ f. rw f (omega arith))))
    (λ e. rw e (omega arith))

two_small : (v : Interval) → 1 ≤ v.number → to_two v < 4
unfolding to_two
two_small v h = by_test v.negative (λ e. rw e (omega arith)) (λ e. rw e (omega arith))

pub quantl_small : (el detl : ℤ) → quantl el detl < 64
unfolding quantl quantise
quantl_small el detl = six_small _ (omega arith)

pub quanth_small : (eh deth : ℤ) → quanth eh deth < 4
unfolding quanth quantise
quanth_small eh deth = two_small _ (omega arith)

pub low_of_octet : (ih il : ℕ) → il < 64 → low_word (octet ih il) ≡ il
unfolding octet
low_of_octet ih il h = low ih 6 h

pub high_of_octet : (ih il : ℕ) → il < 64 → high_word (octet ih il) ≡ ih
unfolding octet
high_of_octet ih il h = high ih 6 h
