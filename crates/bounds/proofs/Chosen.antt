-- What `a && b` gives, by what its first test said.
-- Assumes nothing.
use Rattle.std.specs.Prelude.{◌≡◌, Bool, true, false, ◌&&◌}
use Rattle.std.proofs.Common.{◌∙◌, sym}

pub went_on : (a b : Bool) {r : Bool} → a ≡ true → r ≡ b → r ≡ (a && b)
went_on a b e f = rw e f

pub stopped : (a b : Bool) {r : Bool} → r ≡ a → r ≡ false → r ≡ (a && b)
stopped a b e f = rw (sym e ∙ f) f
