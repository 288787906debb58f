-- The records' bounds and their reset: SCOPE 14 to 22.
-- Assumes nothing.
use Rattle.std.specs.Prelude.{Bool, true, ◌&&◌, List, [], ◌∷◌, ℤ, pos, neg_ℤ, ◌-ℤ◌, replicate}
use Rattle.g722.specs.Arithmetic.{neg, within, equal}
use Rattle.g722.specs.Quantise.{scalel, scaleh}
use Rattle.g722.specs.declared.Poles.{Poles}
use Rattle.g722.specs.declared.Factors.{Factors}
use Rattle.g722.specs.declared.Band.{Band}
use Rattle.g722.specs.declared.Coder.{Coder}
use Rattle.g722.specs.declared.Decoder.{Decoder}

-- the range of XIN, XOUT, RL and RH
unfoldable pub in_range : ℤ → Bool
in_range z = within (neg 16384) (pos 16383) z

unfoldable pub all_in_range : List ℤ → Bool
all_in_range [] = true
all_in_range (z ∷ zs) = in_range z && all_in_range zs

-- the second pole coefficient within 12288, the first within 15360 less the second
unfoldable pub good_poles : Poles → Bool
good_poles s = within (neg 12288) (pos 12288) s.a2 && within (neg_ℤ (pos 15360 -ℤ s.a2)) (pos 15360 -ℤ s.a2) s.a1

-- the log factor within its limits, and the scale factor what the log factor gives
unfoldable pub good_factors : ℤ → (ℤ → ℤ) → Factors → Bool
good_factors top scale f = within (pos 0) top f.log && equal f.scale (scale f.log)

unfoldable pub good_low : Band → Bool
good_low s = good_poles s.poles && good_factors (pos 18432) scalel s.factors

unfoldable pub good_high : Band → Bool
good_high s = good_poles s.poles && good_factors (pos 22528) scaleh s.factors

unfoldable pub good_coder : Coder → Bool
good_coder c = good_low c.low && good_high c.high && all_in_range c.past

unfoldable pub good_decoder : Decoder → Bool
good_decoder d = good_low d.low && good_high d.high && all_in_range d.past.rl && all_in_range d.past.rh

-- reset: all zero, but for the scale factor
unfoldable pub reset_band : ℤ → Band
reset_band scale =
    record {
      zeros = record { b = replicate 6 (pos 0); d = replicate 6 (pos 0) };
      poles = record { a1 = pos 0; a2 = pos 0; r1 = pos 0; r2 = pos 0; p1 = pos 0; p2 = pos 0 };
      factors = record { log = pos 0; scale = scale };
    }

unfoldable pub reset_coder : Coder
reset_coder = record { low = reset_band (pos 32); high = reset_band (pos 8); past = replicate 22 (pos 0) }

unfoldable pub reset_decoder : Decoder
reset_decoder =
    record {
      low = reset_band (pos 32);
      high = reset_band (pos 8);
      past = record { rl = replicate 11 (pos 0); rh = replicate 11 (pos 0) };
    }
