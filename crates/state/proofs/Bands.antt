-- Bytes 1 to 80 of either state are those of its two bands.
-- Assumes nothing.
use Rattle.std.specs.Prelude.{◌≡◌, refl, List, ◌++◌, ℕ, ℤ, take, drop}
use Rattle.std.proofs.Common.{subst}
use Rattle.g722.specs.declared.Band.{Band}
use Rattle.g722.specs.declared.Coder.{Coder}
use Rattle.g722.specs.declared.Decoder.{Decoder}
use Rattle.facts.specs.Fits.{BandFits}
use Rattle.big_endian.specs.Bytes.{pcm_bytes}
use Rattle.state.specs.Layout.{band_values, coder_values, decoder_values, coder_bytes, decoder_bytes}
use Rattle.state.proofs.Values.{spelled, spelled_same}

unfoldable pub band_bytes : Band → Band → List ℕ
band_bytes low high = pcm_bytes (band_values low ++ band_values high)

first_80 : (low high : Band) (rest : List ℤ) → BandFits low → BandFits high
    → take 80 (pcm_bytes (band_values low ++ (band_values high ++ rest))) ≡ band_bytes low high
unfolding pcm_bytes band_values band_bytes
first_80 low high rest p q =
    subst (λ (s : Band). take 80 (pcm_bytes (band_values s ++ (band_values high ++ rest))) ≡ band_bytes s high) (spelled_same low p)
    (subst (λ (t : Band). take 80 (pcm_bytes (band_values (spelled low) ++ (band_values t ++ rest))) ≡ band_bytes (spelled low) t)
    (spelled_same high q) refl)

pub coder_bands : (c : Coder) → BandFits c.low → BandFits c.high → take 80 (drop 1 (coder_bytes c)) ≡ band_bytes c.low c.high
unfolding coder_bytes coder_values
coder_bands c p q = first_80 c.low c.high c.past p q

pub decoder_bands : (d : Decoder) → BandFits d.low → BandFits d.high
    → take 80 (drop 1 (decoder_bytes d)) ≡ band_bytes d.low d.high
unfolding decoder_bytes decoder_values
decoder_bands d p q = first_80 d.low d.high (d.past.rl ++ d.past.rh) p q
