-- `band::coefficients` meets its contract: every call of its closure gives the next value of one coefficient.
use Rattle.std.proofs.Common.{rules, ◌≡◌, length}
use Rattle.g722.specs.Band.{upzero}
use Rattle.arith.proofs.Made.{zipped}
use Rattle.band.proofs.coefficients.Goals as goal

pub returns : goal.returns
returns c =
    let z = c.args.z in
    let b6 : length z.b ≡ 6 = search rules in
    let d6 : length z.d ≡ 6 = search rules in
    zipped _ (upzero c.args.d) z.b z.d _ (λ i r q k. search rules) c.from_fn.result 6 c.from_fn.ensures.items b6 d6
