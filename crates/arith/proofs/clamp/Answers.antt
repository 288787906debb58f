-- `arith::clamp` meets its contract: what lies between two ends of 16 bits fits them, and an end does too.
use Rattle.std.proofs.Common.{◌≡◌, ◌∙◌, ℤ, SFits, to_z-of_z}
use Rattle.std.specs.Int.{w16}
use Rattle.std.specs.Int.Signed.{lt_z}
use Rattle.laws.specs.Back.{back32, widened}
use Rattle.laws.specs.Clamp.{clamp}
use Rattle.laws.specs.Order.{by_test}
use Rattle.laws.specs.Size.{fits_between}
use Rattle.arith.proofs.clamp.Goals as goal

fits : (lo hi x : ℤ) → SFits w16 lo → SFits w16 hi → SFits w16 (clamp lo hi x)
unfolding clamp
fits lo hi x f g =
    by_test (lt_z x lo)
    (λ e. rw e f)
    (λ e. by_test (lt_z hi x) (λ k. rw (e, k) g) (λ k. rw (e, k) (fits_between f g e k)))

-- what `fit` gives, read back
is : (c : goal.After-fit) → c.fit.result ≡ clamp c.args.lo c.args.hi c.args.x
is c =
    rw (
      widened c.from.type_inv c.from.ensures c.ranges.lo,
      widened c.from-2.type_inv c.from-2.ensures c.ranges.hi,
      to_z-of_z c.ranges.x,
    ) at c.fit.ensures

pub overflow_cast-result : goal.overflow_cast-result
overflow_cast-result c = rw (back32 c.fit.result c.fit.type_inv, is c) (fits c.args.lo c.args.hi c.args.x c.ranges.lo c.ranges.hi)

pub returns : goal.returns
returns c = to_z-of_z (overflow_cast-result c) ∙ (back32 c.fit.result c.fit.type_inv ∙ is c)
