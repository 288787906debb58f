-- Demand 3 for a host that keeps bytes, from the last reset: a reset is the reset bytes, put where the state stands.
-- Assumes nothing.
use Rattle.std.specs.Prelude.{◌≡◌, List, ◌∷◌, ◌++◌, map, ℕ, ◌*◌, ℤ, length, take}
use Rattle.g722.specs.Records.{reset_coder, reset_decoder}
use Rattle.g722.specs.Coding.{coder_after}
use Rattle.facts.specs.Told.{Told, decoder_run}
use Rattle.facts.specs.Upper.{upper_six}
use Rattle.state.specs.Layout.{coder_bytes, decoder_bytes}
use Rattle.state.specs.Reset.{reset_bytes}
use Rattle.promises.proofs.StepRuns.{received}
use Rattle.promises.proofs.Ends.{AsSent}
use Rattle.promises.proofs.Turns.{Turn, reset, since}
use Rattle.promises.proofs.Resets.{record_after, taken_since, left_since, taken_since_lem, left_since_lem, record_forgets}
use Rattle.host_promises.specs.Streams.{EncodeInput, StoreInput}
use Rattle.host_promises.specs.HostEnds.{bands}
use Rattle.host_promises.proofs.HostCalls.{host_coding, host_decoding}
use Rattle.host_promises.proofs.HostEnds.{host_ends_equal, host_state_behind, host_states_equal}

module _ (cs : List (Turn EncodeInput)) (ds : List (Turn StoreInput)) where
  -- since the last reset: the samples of the coder's accepted calls, the octets that they left, and the octets of the decoder's
  abbrev spoken : List ℤ
  spoken = taken_since host_coding (reset_bytes 1) cs

  abbrev sent : List ℕ
  sent = left_since host_coding (reset_bytes 1) cs

  abbrev came : List Told
  came = taken_since host_decoding (reset_bytes 2) ds

  -- THE THEOREM. Wherever the first n octets since the last reset of both came as they were sent, the bytes of both bands are the same at
  -- both ends after the n-th ..
  pub host_equal_since : (n : ℕ) → AsSent n sent came
      → bands (coder_bytes (coder_after reset_coder (take (2 * n) spoken))) ≡ bands (decoder_bytes (decoder_run reset_decoder (take n came)))
  host_equal_since n e =
      rw (taken_since_lem host_coding (reset_bytes 1) cs)
      (host_ends_equal (since cs) came n (rw (left_since_lem host_coding (reset_bytes 1) cs) at e))

  -- .. and in the states themselves, whatever bytes they began with and whatever came before their first reset: of the decoder's, while it
  -- is behind what was sent since the last ..
  module _ (state : List ℕ) (heard : List (Turn StoreInput)) where
    abbrev decoder : List ℕ
    decoder = record_after host_decoding (reset_bytes 2) state (heard ++ (reset ∷ ds))

    pub host_behind_since : AsSent (length came) sent came
        → bands (coder_bytes (coder_after reset_coder (take (2 * length came) spoken))) ≡ bands decoder
    host_behind_since e =
        rw (
          record_forgets host_decoding (reset_bytes 2) state heard ds,
          taken_since_lem host_coding (reset_bytes 1) cs,
          taken_since_lem host_decoding (reset_bytes 2) ds,
        )
        (host_state_behind (since cs) (since ds)
        (rw (left_since_lem host_coding (reset_bytes 1) cs, taken_since_lem host_decoding (reset_bytes 2) ds) at e))

    -- .. and of both, where all that was sent since then has come
    pub host_states_since : (other : List ℕ) (said : List (Turn EncodeInput)) → map upper_six sent ≡ map upper_six (received came)
        → bands (record_after host_coding (reset_bytes 1) other (said ++ (reset ∷ cs))) ≡ bands decoder
    host_states_since other said e =
        rw (record_forgets host_coding (reset_bytes 1) other said cs, record_forgets host_decoding (reset_bytes 2) state heard ds)
        (host_states_equal (since cs) (since ds)
        (rw (left_since_lem host_coding (reset_bytes 1) cs, taken_since_lem host_decoding (reset_bytes 2) ds) at e))
