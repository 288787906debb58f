-- One port more.
use Rattle.std.proofs.Common.{rules, ◌≡◌, refl, ◌∙◌, ◌<◌, ◌≤◌, pos, length, arith}
use Rattle.laws.specs.Back.{back16}
use Rattle.laws.specs.Filled.{fill}
use Rattle.port.specs.Step.{heard_of}
use Rattle.mixer.proofs.Laws.{full, none_yet, as_it_stood, one_more, all_ports}
use Rattle.mixer.proofs.Laws.{rls_length, rhs_length, rl_of_lem, rh_of_lem}
use Rattle.mixer.proofs.hear_all.Goals as goal

pub loop-i-init : goal.loop-i-init
loop-i-init c =
    record {
      table = none_yet _ _ _;
      lows = record { long = c.requires.low_len; is = refl };
      highs = record { long = c.requires.high_len; is = refl };
    }

pub loop-i-preserved : goal.loop-i-preserved
unfolding heard_of
loop-i-preserved c =
    let a = c.args in
    let i = c.loop-i.i in
    let v = c.loop-i.invariant in
    let eight : length a.decoders ≡ 8 = search rules in
    let given : i < length a.octets.now = omega arith in
    let inside : i < length a.decoders = omega arith in
    let few : length a.octets.now ≤ length a.decoders = omega arith in
    let told : i < length a.modes.now = omega arith in
    let stood = as_it_stood _ _ _ v.table _ in
    let low-long = rls_length a.decoders a.modes.now a.octets.now few c.requires.modes_len in
    let high-long = rhs_length a.decoders a.modes.now a.octets.now few in
    let x = rl_of_lem a.decoders a.modes.now a.octets.now i _ c.heard-rl.ensures stood inside given told in
    let y = rh_of_lem a.decoders a.modes.now a.octets.now i _ c.heard-rl.ensures stood inside given in
    record {
      table = one_more _ _ _ v.table _ 0 inside given (λ j. (c.heard-rl.ensures j).next);
      lows = fill _ _ v.lows (pos 0) (rw low-long given) given (back16 c.heard-rl.result.rl (search rules) ∙ x);
      highs = fill _ _ v.highs (pos 0) (rw high-long given) given (back16 c.heard-rl.result.rh (search rules) ∙ y);
    }

pub returns : goal.returns
returns c =
    let a = c.args in
    let v = c.loop-i.invariant in
    let eight : length a.decoders ≡ 8 = search rules in
    let few : length a.octets.now ≤ length a.decoders = omega arith in
    let low = full v.lows c.loop-i-test.false (omega (arith, rls_length a.decoders a.modes.now a.octets.now few c.requires.modes_len)) in
    let high = full v.highs c.loop-i-test.false (omega (arith, rhs_length a.decoders a.modes.now a.octets.now few)) in
    record { answer = all_ports _ _ _ v.table c.loop-i-test.false; left = λ j. (low j, high j) }
