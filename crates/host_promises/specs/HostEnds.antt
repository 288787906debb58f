-- What is equal at both ends, in the bytes that a host keeps.
-- Assumes nothing.
use Rattle.std.specs.Prelude.{List, ℕ, take, drop}

-- the bytes of both bands in a state
abbrev pub bands : List ℕ → List ℕ
bands state = take 80 (drop 1 state)
