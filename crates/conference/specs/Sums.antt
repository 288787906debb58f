-- What a port hears of one band: the sum of the other ports' signals, limited.
-- Assumes nothing.
use Rattle.std.specs.Prelude.{List, [], ◌∷◌, map, ℕ, zero, suc, ℤ, pos, ◌+ℤ◌, length}
use Rattle.g722.specs.Arithmetic.{limit}

-- a sum, exact
unfoldable pub sum_of : List ℤ → ℤ
sum_of [] = pos 0
sum_of (x ∷ rest) = x +ℤ sum_of rest

-- a list without its entry k
unfoldable pub without : {A : Type 0} → ℕ → List A → List A
without k [] = []
without zero (x ∷ rest) = rest
without (suc k) (x ∷ rest) = x ∷ without k rest

-- 0, 1, .. : the first n ports
unfoldable pub ports_from : ℕ → ℕ → List ℕ
ports_from k zero = []
ports_from k (suc n) = k ∷ ports_from (suc k) n

-- the sum of all signals but that of port k, and those sums for all ports, before they are limited
unfoldable pub others_of : List ℤ → ℕ → ℤ
others_of signals k = sum_of (without k signals)

unfoldable pub sums_of : List ℤ → List ℤ
sums_of signals = map (others_of signals) (ports_from 0 (length signals))

-- what each port hears
unfoldable pub mixed : List ℤ → List ℤ
mixed signals = map limit (sums_of signals)
