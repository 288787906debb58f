-- `at_hand::outputs` meets its contract: each constant is what the printed column and the words' rule give, computed.
use Rattle.std.proofs.Common.{refl, ne_eqb}
use Rattle.g722.specs.Tables.{qq6, qq5, qq4, qq2}
use Rattle.g722.specs.Words.{from_six, from_five, from_four, from_two}
use Rattle.at_hand.specs.Signed.{signed_of, output_at, outputs_of}
use Rattle.at_hand.proofs.outputs.Goals as goal

pub returns-in-true-default : goal.returns-in-true-default
unfolding outputs_of output_at signed_of from_two qq2
returns-in-true-default c = rw c.in-true-default.is-0 refl

pub returns-in-false-eq1 : goal.returns-in-false-eq1
unfolding outputs_of output_at signed_of from_six qq6
returns-in-false-eq1 c = let is = c.in-false-eq1 in rw (is.is-0, is.is-1) refl

pub returns-in-false-eq2 : goal.returns-in-false-eq2
unfolding outputs_of output_at signed_of from_five qq5
returns-in-false-eq2 c = let is = c.in-false-eq2 in rw (is.is-0, is.is-1) refl

pub returns-in-false-default : goal.returns-in-false-default
unfolding outputs_of output_at signed_of from_four qq4
returns-in-false-default c =
    let is = c.in-false-default in
    let mode = c.args.mode in
    rw (is.is-0, ne_eqb mode 1 is.is-1.0.1, ne_eqb mode 2 is.is-1.1) refl
