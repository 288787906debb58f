-- The bound of the first pole coefficient, 15360 less the second: within the second's own bound no stop is met.
-- Assumes nothing.
use Rattle.std.specs.Prelude.{◌≡◌, ℤ, pos, neg_ℤ, ◌-ℤ◌, ◌≤ℤ◌}
use Rattle.std.proofs.Common.{◌∙◌}
use Rattle.std.proofs.Math.IntN.{+ℤ_idl}
use Rattle.laws.specs.Clamp.{clamp_id}
use Rattle.laws.specs.Order.{zarith, sub_read}
use Rattle.g722.specs.Arithmetic.{neg, sub}
use Rattle.g722.specs.Band.{reach}

module _ (a2 : ℤ) (l : neg 12288 ≤ℤ a2) (h : a2 ≤ℤ pos 12288) where
  pub reach_exact : reach a2 ≡ pos 15360 -ℤ a2
  unfolding reach sub
  reach_exact =
      clamp_id (neg 32768) (pos 32767) (pos 15360 -ℤ a2) (omega (zarith, sub_read (pos 15360) a2)) (omega (zarith, sub_read (pos 15360) a2))

  pub reach_negated : sub (pos 0) (pos 15360 -ℤ a2) ≡ neg_ℤ (pos 15360 -ℤ a2)
  unfolding sub
  reach_negated =
      clamp_id (neg 32768) (pos 32767) (pos 0 -ℤ (pos 15360 -ℤ a2))
      (omega (zarith, sub_read (pos 15360) a2, sub_read (pos 0) (pos 15360 -ℤ a2)))
      (omega (zarith, sub_read (pos 15360) a2, sub_read (pos 0) (pos 15360 -ℤ a2)))
      ∙ +ℤ_idl (neg_ℤ (pos 15360 -ℤ a2))
