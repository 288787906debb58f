-- Demand 3, its second half, of decoding's first step: cue bits reach neither signal.
-- From equal records, two streams cut into the same calls with the same modes, which agree in what is heard of each octet, give the same
-- answers and the same low and high signals, whatever stood in the memory that was lent for them, and whatever calls are refused.
-- Assumes nothing.
use Rattle.std.specs.Prelude.{◌≡◌}
use Rattle.std.proofs.Math.ListN.{length}
use Rattle.g722.specs.Quantise.{in_force}
use Rattle.promises.proofs.HearCalls.{HearInput}
use Rattle.promises.proofs.Unheard.{Alike}

-- two calls with the same mode told and as much memory lent, which agree in what is heard of each octet
pub record AlikeHear (k j : HearInput) : Type 0 where
  pub told : k.told ≡ j.told
  pub octets : Alike (in_force k.told) k.octets j.octets
  pub low : length k.low ≡ length j.low
  pub high : length k.high ≡ length j.high
