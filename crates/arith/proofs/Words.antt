-- What the proofs here share: numbers of one width are one number exactly if their words are.
-- Assumes nothing.
use Rattle.std.specs.Prelude.{◌≡◌, ℤ, eqb}
use Rattle.std.proofs.Common.{◌∙◌, sym, ap, SFits, to_z, of_z, to_z-of_z}
use Rattle.std.specs.Int.{Width}
use borrow.Author.Tests.{eq-eqb, eqb-true}
use Rattle.laws.specs.Order.{by_test, no}
use Rattle.g722.specs.Arithmetic.{equal}
use Rattle.g722.specs.Within.{equal_refl, equal_same}

pub one_word : {w : Width} {a b : ℤ} → SFits w a → SFits w b → eqb (of_z w a) (of_z w b) ≡ equal a b
one_word {w} {a} {b} f g =
    by_test (eqb (of_z w a) (of_z w b))
    (λ e. let s : a ≡ b = sym (to_z-of_z f) ∙ ap (to_z w) (eqb-true (of_z w a) (of_z w b) e) ∙ to_z-of_z g in e ∙ sym (rw s (equal_refl b)))
    (λ e. by_test (equal a b) (λ t. no (sym (eq-eqb _ _ (ap (of_z w) (equal_same a b t))) ∙ e)) (λ t. e ∙ sym t))
