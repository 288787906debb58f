-- Decoding in two steps: a decoding call that is not refused is the first step and then the second one, over what the first gave.
-- Assumes nothing.
use Rattle.std.specs.Prelude.{◌≡◌, List, ℕ, ◌*◌, ltb, ℤ}
use Rattle.std.proofs.Math.Path.{refl, sym, ap}
use Rattle.std.proofs.Common.{◌∙◌}
use borrow.Author.Tests.{eq-eqb}
use Rattle.std.proofs.Math.ListN.{length}
use Rattle.laws.specs.Order.{by_test}
use Rattle.g722.specs.Quantise.{in_force}
use Rattle.g722.specs.Records.{good_decoder}
use Rattle.g722.specs.Coding.{misfit}
use Rattle.g722.specs.Decoding.{not_decoded, decoded, decode_call}
use Rattle.g722.specs.Steps.{unpaired, not_heard, heard, hear_call, join_call}
use Rattle.g722.specs.declared.Decoder.{Decoder}
use Rattle.facts.specs.Lengths.{twice}
use Rattle.promises.proofs.Accepted.{decoded_fits, decoded_from_good, decoded_run, heard_run_lem}
use Rattle.promises.proofs.Steps.{joins_heard, two_steps}

module _ (d : Decoder) (told : ℕ) (o : List ℕ) (s low high : List ℤ) (l : length low ≡ length o) (m : length high ≡ length o) where
  -- the first step is refused where decoding is, with the same number, if as many samples are lent as decoding asks for
  pub refused_alike : length s ≡ 2 * length o → (hear_call d told o low high).answer.number ≡ (decode_call d told o s).answer.number
  unfolding hear_call not_heard heard unpaired decode_call not_decoded decoded misfit
  refused_alike e =
      rw (l, m, e, eq-eqb (length o) (length o) refl, eq-eqb (2 * length o) (2 * length o) refl)
      (by_test (ltb 3 told) (λ a. rw a) (λ a.
      by_test (ltb 8000 (length o)) (λ b. rw (a, b)) (λ b.
      by_test (good_decoder d) (λ g. rw (a, b, g)) (λ g. rw (a, b, g)))))

  module _ (h : (decode_call d told o s).answer.number ≡ 0) where
    pub first_accepted : (hear_call d told o low high).answer.number ≡ 0
    first_accepted = refused_alike (twice _ _ (decoded_fits d told o s h)) ∙ h

    -- THE THEOREM: samples, number, index and record of a decoding call that is not refused are those of the two steps
    pub in_two_steps_lem : decode_call d told o s ≡ two_steps d told o low high s
    unfolding heard
    in_two_steps_lem =
        decoded_run d told o s h
        ∙ sym (joins_heard (in_force told) d o s (decoded_fits d told o s h) (decoded_from_good d told o s h))
        ∙ ap (λ x. join_call x.answer.next x.left.0 x.left.1 s) (sym (heard_run_lem d told o low high first_accepted))
