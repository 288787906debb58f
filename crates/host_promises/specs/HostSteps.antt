-- What a host may do in place of a decoding call.
-- Assumes nothing.
use Rattle.std.specs.Prelude.{List, ℕ}
use Rattle.laws.specs.Outcome.{Outcome}
use Rattle.host_steps.specs.Calls.{hear_bytes, join_bytes}

-- the second step over what the first one leaves: the state, and the low and the high signals
abbrev pub host_two_steps : List ℕ → ℕ → List ℕ → List ℕ → List ℕ → List ℕ → Outcome ℕ (List ℕ × List ℕ)
host_two_steps state told octets low high samples =
    let first = hear_bytes state told octets low high in join_bytes first.left.0 first.left.1.0 first.left.1.1 samples
