-- Two tests together: `a && b` is true where each is.
-- Assumes nothing.
use Rattle.std.specs.Prelude.{◌≡◌, Bool, true, ◌&&◌}
use Rattle.std.proofs.Math.Bool.{and-eq-true_iff}

pub both : {a b : Bool} → a ≡ true → b ≡ true → (a && b) ≡ true
both {a} {b} p q = (and-eq-true_iff a b).1 (p, q)

pub left_true : (a b : Bool) → (a && b) ≡ true → a ≡ true
left_true a b e = ((and-eq-true_iff a b).0 e).0

pub right_true : (a b : Bool) → (a && b) ≡ true → b ≡ true
right_true a b e = ((and-eq-true_iff a b).0 e).1
