-- The two steps for a host: each is the record's call between reading the state bytes and writing them.
-- Assumes nothing.
use Rattle.std.specs.Prelude.{List, ℕ}
use Rattle.laws.specs.Outcome.{Outcome}
use Rattle.pcm.specs.Signals.{hear_chunk, join_chunk}
use Rattle.state.specs.Layout.{decoder_in}
use Rattle.host.specs.Calls.{after_decoding}

unfoldable pub hear_bytes : List ℕ → ℕ → List ℕ → List ℕ → List ℕ → Outcome ℕ (List ℕ × (List ℕ × List ℕ))
hear_bytes state told octets low high = after_decoding state (hear_chunk (decoder_in state) told octets low high)

unfoldable pub join_bytes : List ℕ → List ℕ → List ℕ → List ℕ → Outcome ℕ (List ℕ × List ℕ)
join_bytes state low high samples = after_decoding state (join_chunk (decoder_in state) low high samples)
