-- `listing::listed` meets its contract: the definition makes the same test.
use Rattle.std.proofs.Common.{rules, ◌<◌, ◌^◌}
use Rattle.std.specs.Int.Signed.{mag}
use borrow.Author.Tests.{ne_eqb}
use Rattle.laws.specs.Back.{back16}
use Rattle.g722.specs.Refused.{number_of}
use Rattle.g722.proofs.Tells.{refused_number}
use Rattle.listing.specs.Listed.{listed}
use Rattle.listing.proofs.listed.Goals as goal

pub returns-in-Err : goal.returns-in-Err
unfolding listed
returns-in-Err c =
    let r = c.in-Err.refusal in
    rw (c.in-Err.is, ne_eqb (number_of r) 0 (refused_number r), ← c.number.ensures) c.refused_line.ensures

pub returns-in-Ok : goal.returns-in-Ok
unfolding listed
returns-in-Ok c =
    let b = c.in-Ok.b in
    let first : mag b.first < 2 ^ 15 = search rules in
    let last : mag b.last < 2 ^ 15 = search rules in
    rw c.in-Ok.is (rw (back16 b.first first, back16 b.last last) at c.block_line.ensures)
