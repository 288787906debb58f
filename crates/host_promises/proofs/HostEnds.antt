-- Demand 3, its first half, over bytes: the two ends never part. From the reset bytes, wherever the octets came as they were sent, the
-- bytes of both bands, 1 to 80 of the state, are equal at both ends after each octet.
-- Assumes nothing.
use Rattle.std.specs.Prelude.{◌≡◌, List, map, ℕ, ◌*◌, length, take}
use Rattle.std.proofs.Common.{sym, ◌∙◌}
use Rattle.g722.specs.Records.{reset_coder, reset_decoder}
use Rattle.g722.specs.Coding.{coder_after}
use Rattle.g722.specs.declared.Coder.{Coder}
use Rattle.facts.specs.Fits.{DecoderFits, decoder_told_fits, decoder_reset_fits}
use Rattle.facts.specs.Told.{Told, decoder_run}
use Rattle.facts.specs.Upper.{upper_six}
use Rattle.state.specs.Layout.{coder_bytes, decoder_bytes}
use Rattle.state.proofs.Bands.{band_bytes, coder_bands, decoder_bands}
use Rattle.state.specs.Reset.{reset_bytes}
use Rattle.promises.proofs.Through.{through}
use Rattle.promises.proofs.StepRuns.{received}
use Rattle.promises.proofs.SameBands.{SameBands}
use Rattle.promises.proofs.Ends.{AsSent, same_after, same_behind, same_at_end, reset_same}
use Rattle.host_promises.specs.Streams.{EncodeInput, StoreInput}
use Rattle.host_promises.specs.HostEnds.{bands}
use Rattle.host_promises.proofs.HostCalls.{host_coding, host_sent, host_spoken, host_octets_from_reset, host_coder_from_reset}
use Rattle.host_promises.proofs.HostCalls.{host_decoding, host_came, host_decoder_from_reset}

bands_same : (c : Coder) (ts : List Told) → SameBands c (decoder_run reset_decoder ts)
    → bands (coder_bytes c) ≡ bands (decoder_bytes (decoder_run reset_decoder ts))
bands_same c ts s =
    let d = decoder_run reset_decoder ts in
    let f : DecoderFits d = decoder_told_fits reset_decoder ts decoder_reset_fits in
    coder_bands c (rw s.low f.low) (rw s.high f.high)
    ∙ (λ i. band_bytes (s.low i) (s.high i))
    ∙ sym (decoder_bands d f.low f.high)

-- THE THEOREM. Any coding calls of a host from the reset bytes, and any octets received with any modes in force: wherever the first n
-- came as they were sent, the bytes of both bands are the same at both ends after the n-th
pub host_ends_equal : (ks : List EncodeInput) (ts : List Told) (n : ℕ) → AsSent n (host_sent (reset_bytes 1) ks) ts
    → bands (coder_bytes (coder_after reset_coder (take (2 * n) (host_spoken (reset_bytes 1) ks))))
    ≡ bands (decoder_bytes (decoder_run reset_decoder (take n ts)))
host_ends_equal ks ts n e =
    bands_same _ (take n ts)
    (same_after n reset_coder reset_decoder (host_spoken (reset_bytes 1) ks) ts reset_same (rw (host_octets_from_reset ks) at e))

module _ (ks : List EncodeInput) (ds : List StoreInput) where
  abbrev came : List Told
  came = host_came (reset_bytes 2) ds

  -- so of the state that decoding calls leave, wherever they are cut, while they are behind what was sent
  pub host_state_behind : AsSent (length came) (host_sent (reset_bytes 1) ks) came
      → bands (coder_bytes (coder_after reset_coder (take (2 * length came) (host_spoken (reset_bytes 1) ks))))
      ≡ bands (through host_decoding (reset_bytes 2) ds)
  host_state_behind e =
      rw (host_decoder_from_reset ds) (bands_same _ came
      (same_behind reset_coder reset_decoder (host_spoken (reset_bytes 1) ks) came reset_same (rw (host_octets_from_reset ks) at e)))

  -- and of both states, where all that was sent has come
  pub host_states_equal : map upper_six (host_sent (reset_bytes 1) ks) ≡ map upper_six (received came)
      → bands (through host_coding (reset_bytes 1) ks) ≡ bands (through host_decoding (reset_bytes 2) ds)
  host_states_equal e =
      rw (host_coder_from_reset ks, host_decoder_from_reset ds) (bands_same _ came
      (same_at_end reset_coder reset_decoder (host_spoken (reset_bytes 1) ks) came reset_same (rw (host_octets_from_reset ks) at e)))
