-- A turn of a band's loop in two halves, so that the prediction is computed once:
-- what is estimated before the difference is known, and what is adapted after it.
-- Assumes nothing.
use Rattle.std.specs.Prelude.{◌≡◌, refl, ℤ}
use Rattle.g722.specs.Arithmetic.{add}
use Rattle.g722.specs.Band.{filtez, predic, parrec, recons, next_zeros, next_poles, next_band}
use Rattle.g722.specs.declared.Factors.{Factors}
use Rattle.g722.specs.declared.Band.{Band}
use Rattle.band.specs.declared.Estimates.{Estimates}

-- SZ and S
unfoldable pub estimated : Band → Estimates
estimated s = record { sz = filtez s.zeros; s = predic s }

-- the band after the quantised difference d, with its next factors f
unfoldable pub adapted : Band → Estimates → ℤ → Factors → Band
adapted s e d f =
    record { zeros = next_zeros s.zeros d; poles = next_poles s.poles (add d e.sz) (add e.s d); factors = f }

-- the two halves make one turn
pub halves : (s : Band) (d : ℤ) (f : Factors) → adapted s (estimated s) d f ≡ next_band s d f
unfolding estimated adapted next_band parrec recons
halves s d f = refl
