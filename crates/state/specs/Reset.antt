-- The reset bytes, written out.
-- Assumes nothing.
use Rattle.std.specs.Prelude.{List, ◌∷◌, ℕ, replicate, set}

-- all zero but the kind, the low band's scale factor 32 and the high band's 8
unfoldable pub reset_bytes : ℕ → List ℕ
reset_bytes kind = set (set (kind ∷ replicate 124 0) 40 32) 80 8
