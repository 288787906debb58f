-- `decoder::in_turn` meets its contract: decoding is the second step of the first.
use mathlib.Core.Path.{sym, ap, ◌∙◌}
use mathlib.Core.List.{List}
use lib.IntN.{ℤ}
use native.Mathlib.Omega.{arith}
use Rattle.facts.specs.Steps.{full_in_steps, samples_in_steps, record_in_steps}
use Rattle.facts.specs.Signals.{rls_in_range, rhs_in_range}
use Rattle.g722.specs.Records.{all_in_range}
use Rattle.g722.specs.Arithmetic.{overloads}
use Rattle.g722.specs.Decoding.{decoded}
use Rattle.g722.specs.Steps.{heard_after, heard, joined_of, joined}
use Rattle.decoder.proofs.in_turn.Goals as goal

pub returns : goal.returns
unfolding decoded heard joined heard_after
returns c =
    let a = c.args in
    let octets = a.octets.now in
    let did = c.hear_block-heard.ensures in
    let full = sym (full_in_steps a.mode a.d.decoder octets) in
    let next = sym (record_in_steps a.mode a.d.decoder octets) in
    record {
      answer =
          c.join_block.ensures.answer
          ∙ (λ i. (joined (did.answer i).next (did.left i).0 (did.left i).1).answer)
          ∙ λ i. record { number = 0; index = 0; limited = overloads (full i); next = next i };
      left =
          c.join_block.ensures.left
          ∙ (λ i. joined_of (did.answer i).next.past (did.left i).0 (did.left i).1)
          ∙ sym (samples_in_steps a.mode a.d.decoder octets);
    }

-- what was heard is what joining asks for
pub join_block-requires : goal.join_block-requires
unfolding heard
join_block-requires c =
    let a = c.args in
    let octets = a.octets.now in
    let did = c.hear_block-heard.ensures in
    let low = c.hear_block-heard.auto.low in
    let high = c.hear_block-heard.auto.high in
    record {
      low_len_bound = omega (arith, low, c.requires);
      high_len = omega (arith, low, high, c.requires);
      samples_len = omega (arith, low, c.requires);
      low_value = ap (λ (x : List ℤ × List ℤ). all_in_range x.0) did.left ∙ rls_in_range a.mode a.d.decoder.low octets;
      high_value = ap (λ (x : List ℤ × List ℤ). all_in_range x.1) did.left ∙ rhs_in_range a.d.decoder.high octets;
    }
