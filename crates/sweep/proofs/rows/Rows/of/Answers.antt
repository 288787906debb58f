-- `sweep::rows::Rows::of` meets its contract: the six stand at the start, and behind them two lanes that are 0.
use Rattle.std.proofs.Common.{rules, ◌≡◌, ◌∙◌, ap, length, take, take_at, replicate, pos, arith}
use Rattle.idle.specs.Rows.{zeros_at, begun_six, begun_quiet}
use Rattle.sweep.proofs.rows.Rows.of.Goals as goal

pub invariant_of-result : goal.invariant_of-result
invariant_of-result c =
    let six : length c.args.z.d ≡ 6 = search rules in
    (omega arith, omega arith, begun_quiet c.args.z.d _ c.begin.ensures six)

pub returns : goal.returns
unfolding zeros_at
returns c =
    let z = c.args.z in
    let b6 : length z.b ≡ 6 = search rules in
    let d6 : length z.d ≡ 6 = search rules in
    λ j. (
      record {
        b = (ap (take 6) c.two_rows.ensures ∙ take_at z.b (replicate 10 (pos 0)) 6 b6) j;
        d = begun_six z.d _ c.begin.ensures d6 j;
      },
      0,
    )
