-- Whatever calls and resets a host asks for, in whatever order, some can be made as the contracts allow: so the promises to a host from
-- the last reset do not hold for want of a case.
-- Assumes nothing.
use Rattle.std.specs.Prelude.{◌≡◌, refl, List, ℕ}
use Rattle.state.specs.Reset.{reset_bytes}
use Rattle.promises.proofs.Turns.{Turn}
use Rattle.promises.proofs.AllowedTurns.{Turning, all_turns}
use Rattle.host_promises.specs.Streams.{EncodeInput, StoreInput}
use Rattle.host_promises.proofs.RunningHost.{host_codes, host_decodes}
use Rattle.host_promises.proofs.AllowedHost.{makes_host_code, makes_host_decode}

-- THE THEOREMS: any calls and resets can be made at each end by a host
pub can_host_code_turns : (state : List ℕ) (ts : List (Turn EncodeInput)) → Turning host_codes (λ s. s ≡ reset_bytes 1) state ts
can_host_code_turns = all_turns host_codes makes_host_code (λ s. s ≡ reset_bytes 1) (reset_bytes 1) refl

pub can_host_decode_turns : (state : List ℕ) (ts : List (Turn StoreInput)) → Turning host_decodes (λ s. s ≡ reset_bytes 2) state ts
can_host_decode_turns = all_turns host_decodes makes_host_decode (λ s. s ≡ reset_bytes 2) (reset_bytes 2) refl
