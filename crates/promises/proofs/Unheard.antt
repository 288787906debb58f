-- Demand 3, its second half: cue bits are never heard.
-- From equal decoder records, two streams cut into the same calls with the same modes, differing only in the last bit of octets
-- decoded in mode 2 and in the last two of octets decoded in mode 3, give the same answers and the same samples, whatever stood
-- in the memory that was lent for them, and whatever calls are refused.
-- Assumes nothing.
use Rattle.std.specs.Prelude.{◌≡◌, cond, ℕ, ◌/◌, eqb, ℤ}
use mathlib.Core.List.{List, [], ◌∷◌, map}
use Rattle.std.proofs.Math.ListN.{length}
use Rattle.g722.specs.Quantise.{in_force}
use Rattle.promises.proofs.Sequences.{DecodeInput}

-- what is heard of an octet: all of it in mode 1, all but the last bit in mode 2, all but the last two in mode 3
unfoldable pub heard_bits : ℕ → ℕ → ℕ
heard_bits mode o = cond (eqb mode 1) o (cond (eqb mode 2) (o / 2) (o / 4))

-- two streams that agree in what is heard of each octet
abbrev pub Alike : ℕ → List ℕ → List ℕ → Type 0
Alike mode os rs = map (heard_bits mode) os ≡ map (heard_bits mode) rs

-- two lists of calls, cut alike, with the same modes told and as much memory lent
pub data AlikeCalls : List DecodeInput → List DecodeInput → Type 0 where
  none : AlikeCalls [] []
  more : {told : ℕ} {os rs : List ℕ} {s t : List ℤ} {ks js : List DecodeInput}
      → Alike (in_force told) os rs → length s ≡ length t → AlikeCalls ks js
      → AlikeCalls (record { told = told; octets = os; samples = s } ∷ ks) (record { told = told; octets = rs; samples = t } ∷ js)
