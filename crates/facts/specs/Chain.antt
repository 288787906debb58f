-- FILTEZ's chain of sums, term after term: what is left to add gives the whole.
-- Assumes nothing.
use Rattle.std.specs.Prelude.{◌≡◌, List, ℕ, ◌+◌, ◌≤◌, ◌<◌, ℤ, pos, length, drop, get_or}
use Rattle.std.proofs.Common.{drop_of_length-le}
use Rattle.laws.specs.Turns.{drop_one}
use Rattle.g722.specs.Arithmetic.{add}
use Rattle.g722.specs.Band.{sums}

pub added : {u r : ℤ} (s : ℤ) (i : ℕ) (wds : List ℤ) → i < length wds → u ≡ add s (get_or wds i (pos 0))
    → sums s (drop i wds) ≡ r → sums u (drop (i + 1) wds) ≡ r
unfolding sums
added s i wds h e p = rw e (rw (drop_one wds i (pos 0) h) at p)

pub summed : {s r : ℤ} (i : ℕ) (wds : List ℤ) → length wds ≤ i → sums s (drop i wds) ≡ r → s ≡ r
unfolding sums
summed i wds h p = rw (drop_of_length-le wds h) at p
