-- `lanes::adapt` meets its contract: every call of its closure gives the next value of one coefficient.
use Rattle.std.proofs.Common.{rules, ◌≡◌, ◌≤◌, length}
use Rattle.std.proofs.iter.Serving.{serving}
use lib.IntN.{nat_abs}
use Rattle.g722.specs.Band.{upzero}
use Rattle.arith.proofs.Made.{zipped}
use Rattle.idle.specs.Plain.{signed_gain_small, upzero_signed}
use Rattle.lanes.proofs.adapt.Goals as goal

pub from_fn-requires : goal.from_fn-requires
from_fn-requires c =
    let h : nat_abs c.signed_gain-g.result ≤ 128 = rw (c.signed_gain-g.ensures) (signed_gain_small _) in
    grind (serving, h)

pub returns : goal.returns
returns c =
    let b8 : length c.args.b ≡ 8 = search rules in
    let p8 : length c.args.past ≡ 8 = search rules in
    zipped _ (upzero c.args.d) c.args.b c.args.past _ (λ i r q k. search (rules, upzero_signed)) c.from_fn.result 8 c.from_fn.ensures.items b8 p8
