-- The two steps of decoding: the second leaves both bands, and over what the first gave it gives what decoding gives.
-- Assumes nothing.
use Rattle.std.specs.Prelude.{◌≡◌, true, false, List, ℕ, eqb, ℤ}
use Rattle.std.proofs.Math.Path.{sym, ap}
use Rattle.std.proofs.Common.{◌∙◌}
use borrow.Author.Tests.{eqb-true, eqb-false, eq-eqb}
use Rattle.std.proofs.Math.ListN.{length}
use Rattle.laws.specs.Order.{by_test}
use Rattle.laws.specs.Outcome.{Outcome}
use Rattle.g722.specs.Records.{good_decoder}
use Rattle.g722.specs.Coding.{misfit}
use Rattle.g722.specs.Decoding.{decoded}
use Rattle.g722.specs.Steps.{rls_of, rhs_of, heard_after, hear_call, joined_after, joined, join_call}
use Rattle.g722.specs.declared.Decoder.{Decoder}
use Rattle.g722.specs.Answers.{Decoded}
use Rattle.facts.specs.Signals.{rls_length, rhs_length, rls_in_range, rhs_in_range, no_bad_pair, heard_good}
use Rattle.g722.specs.Arithmetic.{overloads}
use Rattle.facts.specs.Steps.{full_in_steps, samples_in_steps, record_in_steps}
use Rattle.promises.proofs.Accepted.{joined_run_lem}
use Rattle.promises.proofs.RefusedLaws.{join_beside}

-- ---- what each step leaves, refused or not

pub join_leaves_bands : (d : Decoder) (low high s : List ℤ) → let next = (join_call d low high s).answer.next in
    (next.low ≡ d.low) × (next.high ≡ d.high)
unfolding joined joined_after
join_leaves_bands d low high s =
    by_test (eqb (join_call d low high s).answer.number 0)
    (λ e. let r = joined_run_lem d low high s (eqb-true _ _ e) in
    (ap (λ x. x.answer.next.low) r, ap (λ x. x.answer.next.high) r))
    (λ e. let r = (join_beside d low high s).kept (eqb-false _ _ e) in
    (ap (λ p. p.0.low) r, ap (λ p. p.0.high) r))

-- ---- the first step's signals are what the second asks for

pub joins_heard : (mode : ℕ) (d : Decoder) (o : List ℕ) (s : List ℤ) → misfit (length s) (length o) ≡ false → good_decoder d ≡ true
    → join_call (heard_after d o) (rls_of mode d.low o) (rhs_of d.high o) s ≡ decoded mode d o
unfolding join_call joined decoded heard_after
joins_heard mode d o s f g =
    let low = rls_of mode d.low o in
    let high = rhs_of d.high o in
    let l = rls_length mode d.low o in
    let e : length high ≡ length low = rhs_length d.high o ∙ sym l in
    let fits : misfit (length s) (length low) ≡ false = rw l f in
    rw (fits, eq-eqb _ _ e, heard_good d o g, no_bad_pair low high e (rls_in_range mode d.low o) (rhs_in_range d.high o))
    (λ i. record {
      answer = record {
        number = 0;
        index = 0;
        limited = overloads (sym (full_in_steps mode d o) i);
        next = sym (record_in_steps mode d o) i;
      };
      left = sym (samples_in_steps mode d o) i;
    })

-- ---- what is made in place of a decoding call

-- the second step over what the first one gave: its record, and its signals
abbrev pub two_steps : Decoder → ℕ → List ℕ → List ℤ → List ℤ → List ℤ → Outcome Decoded (List ℤ)
two_steps d told o low high s =
    let first = hear_call d told o low high in join_call first.answer.next first.left.0 first.left.1 s
