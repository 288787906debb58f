-- The tick is made of the codec's own parts: what a port gives is what a call of decoding's first step gives for its octet, and what a
-- port is sent is what coding's two sub-band coders make of two signals, which in coding are the transmit filter's.
-- Assumes nothing.
use Rattle.std.specs.Prelude.{◌≡◌, refl, true, [], ◌∷◌, ℕ, ◌+◌, ◌≤◌, ℤ, drop}
use Rattle.std.proofs.Common.{le-ltb}
use Rattle.g722.specs.Arithmetic.{limit, overloads}
use Rattle.g722.specs.Quantise.{in_force}
use Rattle.g722.specs.Mirror.{lowt, hight}
use Rattle.g722.specs.Records.{good_decoder}
use Rattle.g722.specs.Coding.{window, il_of, ih_of, octet_of, coder_step}
use Rattle.g722.specs.Steps.{signals_of, yls_of, yhs_of, rls_of, rhs_of, unpaired, hear_call}
use Rattle.g722.specs.InSteps.{hear_0}
use Rattle.g722.specs.declared.Coder.{Coder}
use Rattle.g722.specs.declared.Decoder.{Decoder}
use Rattle.conference.specs.Ports.{rl_from, rh_from, decoder_from, octet_to, coder_to}

-- a port's octet is one call of the first step, which is told the port's mode
pub port_by_first_step : (d : Decoder) (told o : ℕ) (x y : ℤ) → told ≤ 3 → good_decoder d ≡ true
    → hear_call d told (o ∷ []) (x ∷ []) (y ∷ [])
    ≡ record {
      answer = record {
        number = 0;
        index = 0;
        limited = overloads (yls_of (in_force told) d.low (o ∷ [])) + overloads (yhs_of d.high (o ∷ []));
        next = decoder_from d o;
      };
      left = (rl_from d (told, o) ∷ [], rh_from d o ∷ []);
    }
unfolding rl_from rh_from decoder_from rls_of rhs_of signals_of unpaired
port_by_first_step d told o x y m g = hear_0 d told (o ∷ []) (x ∷ []) (y ∷ []) (le-ltb 3 told m) refl g

-- a pair of samples is coded by the same two sub-band coders, out of the transmit filter; its past samples are all that moves beside
module _ (c : Coder) (x y : ℤ) where
  abbrev pub filtered : ℤ × ℤ
  filtered = (limit (lowt (window c x y)), limit (hight (window c x y)))

  pub coding_by_sub_bands : (octet_of c x y ≡ octet_to c filtered)
      × (coder_step c x y ≡ record { low = (coder_to c filtered).low; high = (coder_to c filtered).high; past = drop 2 (window c x y) })
  unfolding octet_of coder_step il_of ih_of octet_to coder_to
  coding_by_sub_bands = (refl, refl)

-- the past samples of a coder stay, and the past pairs of a decoder
pub past_stays : (c : Coder) (s : ℤ × ℤ) → (coder_to c s).past ≡ c.past
unfolding coder_to
past_stays c s = refl
