-- The first step of decoding leaves the past pairs, refused or not.
-- Assumes nothing.
use Rattle.std.specs.Prelude.{◌≡◌, List, ℕ, eqb, ℤ}
use Rattle.std.proofs.Math.Path.{ap}
use borrow.Author.Tests.{eqb-true, eqb-false}
use Rattle.laws.specs.Order.{by_test}
use Rattle.g722.specs.Steps.{heard_after, heard, hear_call}
use Rattle.g722.specs.declared.Decoder.{Decoder}
use Rattle.promises.proofs.Accepted.{heard_run_lem}
use Rattle.promises.proofs.RefusedLaws.{hear_beside}

pub hear_leaves_pairs : (d : Decoder) (told : ℕ) (o : List ℕ) (low high : List ℤ)
    → (hear_call d told o low high).answer.next.past ≡ d.past
unfolding heard heard_after
hear_leaves_pairs d told o low high =
    by_test (eqb (hear_call d told o low high).answer.number 0)
    (λ e. ap (λ x. x.answer.next.past) (heard_run_lem d told o low high (eqb-true _ _ e)))
    (λ e. ap (λ p. p.0.past) ((hear_beside d told o low high).kept (eqb-false _ _ e)))
