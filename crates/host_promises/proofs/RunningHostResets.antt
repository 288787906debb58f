-- Demand 3 of the running code that a host calls, from the last reset: of whatever the contracts of `zelcandry_code` and
-- `zelcandry_decode` allow to be answered and left, where the host puts the reset bytes first and again wherever it likes.
-- Assumes nothing.
use Rattle.std.specs.Prelude.{◌≡◌, List, ◌∷◌, map, ℕ, ◌*◌, length, take}
use Rattle.g722.specs.Records.{reset_coder, reset_decoder}
use Rattle.g722.specs.Coding.{coder_after}
use Rattle.facts.specs.Told.{decoder_run}
use Rattle.facts.specs.Upper.{upper_six}
use Rattle.state.specs.Layout.{coder_bytes, decoder_bytes}
use Rattle.state.specs.Reset.{reset_bytes}
use Rattle.promises.proofs.StepRuns.{received}
use Rattle.promises.proofs.Ends.{AsSent}
use Rattle.promises.proofs.Through.{Calls}
use Rattle.promises.proofs.Made.{Made, MadeFrom, last_of}
use Rattle.promises.proofs.Turns.{Turn, reset, since}
use Rattle.promises.proofs.MadeTurns.{MadeTurns, FromReset, made_since}
use Rattle.host_promises.specs.HostEnds.{bands}
use Rattle.host_promises.proofs.RunningHost.{HostCode, HostDecode, host_codes, host_decodes, sent_by, spoken_to, came_to}
use Rattle.host_promises.proofs.RunningHost.{running_host_ends_equal, running_host_behind, running_host_states_equal}

from_start : {C : Calls} (M : Made C) (start : C.State) {ks : List M.Call} {u : C.State} → FromReset M (λ s. s ≡ start) ks u
    → MadeFrom M start ks × (last_of M start ks ≡ u)
from_start M start x = (rw x.was_reset at x.made, rw x.was_reset at x.last)

-- THE THEOREMS, whatever the states before the first reset, and whatever was lost before the last
module _ {s s' t t' : List ℕ} (cs : List (Turn HostCode)) (ds : List (Turn HostDecode))
    (m : MadeTurns host_codes (λ b. b ≡ reset_bytes 1) s (reset ∷ cs) s')
    (w : MadeTurns host_decodes (λ b. b ≡ reset_bytes 2) t (reset ∷ ds) t') where
  coded : MadeFrom host_codes (reset_bytes 1) (since cs) × (last_of host_codes (reset_bytes 1) (since cs) ≡ s')
  coded = from_start host_codes (reset_bytes 1) (made_since host_codes (λ b. b ≡ reset_bytes 1) m)

  decoded : MadeFrom host_decodes (reset_bytes 2) (since ds) × (last_of host_decodes (reset_bytes 2) (since ds) ≡ t')
  decoded = from_start host_decodes (reset_bytes 2) (made_since host_decodes (λ b. b ≡ reset_bytes 2) w)

  -- after the n-th octet since the last reset of both, for every n up to which they came as they were sent, inside a call too
  pub running_host_equal_since : (n : ℕ) → AsSent n (sent_by (since cs)) (came_to (since ds))
      → bands (coder_bytes (coder_after reset_coder (take (2 * n) (spoken_to (since cs)))))
      ≡ bands (decoder_bytes (decoder_run reset_decoder (take n (came_to (since ds)))))
  running_host_equal_since = running_host_ends_equal (since cs) (since ds) coded.0 decoded.0

  -- the state that the decoding calls left, while they are behind what was sent since then
  pub running_host_behind_since : AsSent (length (came_to (since ds))) (sent_by (since cs)) (came_to (since ds))
      → bands (coder_bytes (coder_after reset_coder (take (2 * length (came_to (since ds))) (spoken_to (since cs))))) ≡ bands t'
  running_host_behind_since e = rw (← decoded.1) (running_host_behind (since cs) (since ds) coded.0 decoded.0 e)

  -- the states that both left, where all that was sent since then has come
  pub running_host_states_since : map upper_six (sent_by (since cs)) ≡ map upper_six (received (came_to (since ds))) → bands s' ≡ bands t'
  running_host_states_since e =
      rw (← coded.1, ← decoded.1) (running_host_states_equal (since cs) (since ds) coded.0 decoded.0 e)
