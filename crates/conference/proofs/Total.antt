-- The sums by way of the total: what a port hears is the total less its own signal, limited; and all the sums together are the total as
-- often as there are other ports.
-- Assumes nothing.
use Rattle.std.specs.Prelude.{◌≡◌, refl, List, [], ◌∷◌, map, ℕ, zero, suc, ◌+◌, ◌-◌, ◌<◌, ℤ, pos, ◌+ℤ◌, ◌-ℤ◌, ◌*ℤ◌, length, get_or}
use Rattle.std.proofs.Common.{ap, ◌∙◌, arith}
use Rattle.std.proofs.Math.IntN.{zero-*ℤ, suc_ℤ-*ℤ}
use Rattle.std.proofs.lemmas.List.{length-map}
use Rattle.std.proofs.Math.ListN.{get_or-map}
use Rattle.laws.specs.Order.{zarith, add_read, sub_read}
use Rattle.g722.specs.Arithmetic.{limit}
use Rattle.conference.specs.Sums.{sum_of, without, ports_from, others_of, sums_of, mixed}
use Rattle.conference.proofs.Rows.{same_at}

-- ---- one port: also where there is no such port, as it has no signal

pub others_total : (xs : List ℤ) (k : ℕ) → others_of xs k ≡ sum_of xs -ℤ get_or xs k (pos 0)
unfolding others_of sum_of without
others_total [] zero = refl
others_total [] (suc k) = refl
others_total (x ∷ xs) zero = omega (zarith, add_read x (sum_of xs), sub_read (x +ℤ sum_of xs) x)
others_total (x ∷ xs) (suc k) =
    let y = get_or xs k (pos 0) in
    ap (λ (z : ℤ). x +ℤ z) (others_total xs k)
    ∙ omega (
      zarith,
      add_read x (sum_of xs),
      sub_read (sum_of xs) y,
      sub_read (x +ℤ sum_of xs) y,
      add_read x (sum_of xs -ℤ y),
    )

-- ---- the rows of sums

ports_length : (k n : ℕ) → length (ports_from k n) ≡ n
unfolding ports_from
ports_length k zero = refl
ports_length k (suc n) = ap suc (ports_length (suc k) n)

ports_at : (k n i : ℕ) → i < n → get_or (ports_from k n) i 0 ≡ k + i
unfolding ports_from
ports_at k zero i h = absurd (omega arith)
ports_at k (suc n) zero h = omega arith
ports_at k (suc n) (suc i) h = ports_at (suc k) n i (omega arith) ∙ omega arith

-- an entry of what is made of every port
made_at : (f : ℕ → ℤ) (n k : ℕ) (d : ℤ) → k < n → get_or (map f (ports_from 0 n)) k d ≡ f k
made_at f n k d h =
    let there : k < length (map f (ports_from 0 n)) = rw (length-map (ports_from 0 n) f, ports_length 0 n) h in
    same_at (map f (ports_from 0 n)) k d (f 0) there ∙ get_or-map f (ports_from 0 n) k 0 ∙ ap f (ports_at 0 n k h ∙ omega arith)

pub sums_length : (xs : List ℤ) → length (sums_of xs) ≡ length xs
unfolding sums_of
sums_length xs = length-map (ports_from 0 (length xs)) (others_of xs) ∙ ports_length 0 (length xs)

pub sums_at : (xs : List ℤ) (k : ℕ) → k < length xs → get_or (sums_of xs) k (pos 0) ≡ others_of xs k
unfolding sums_of
sums_at xs k h = made_at (others_of xs) (length xs) k (pos 0) h

pub mixed_length : (xs : List ℤ) → length (mixed xs) ≡ length xs
unfolding mixed
mixed_length xs = length-map (sums_of xs) limit ∙ sums_length xs

pub mixed_at : (xs : List ℤ) (k : ℕ) → k < length xs → get_or (mixed xs) k (pos 0) ≡ limit (others_of xs k)
unfolding mixed
mixed_at xs k h =
    same_at (mixed xs) k (pos 0) (limit (pos 0)) (rw (mixed_length xs) h)
    ∙ get_or-map limit (sums_of xs) k (pos 0)
    ∙ ap limit (sums_at xs k h)

-- ---- all the sums together

ports_suc : (f : ℕ → ℤ) (k n : ℕ) → map f (ports_from (suc k) n) ≡ map (λ (i : ℕ). f (suc i)) (ports_from k n)
unfolding ports_from
ports_suc f k zero = refl
ports_suc f k (suc n) = ap (λ (l : List ℤ). f (suc k) ∷ l) (ports_suc f (suc k) n)

map_same : (f g : ℕ → ℤ) → ((i : ℕ) → f i ≡ g i) → (is : List ℕ) → map f is ≡ map g is
map_same f g e [] = refl
map_same f g e (i ∷ is) = λ q. e i q ∷ map_same f g e is q

-- some s less each entry of a row, together
each_less : (s : ℤ) (xs : List ℤ)
    → sum_of (map (λ (k : ℕ). s -ℤ get_or xs k (pos 0)) (ports_from 0 (length xs))) ≡ pos (length xs) *ℤ s -ℤ sum_of xs
unfolding sum_of ports_from
each_less s [] = rw zero-*ℤ refl
each_less s (x ∷ xs) =
    let n = pos (length xs) *ℤ s in
    ap (λ (l : List ℤ). (s -ℤ x) +ℤ sum_of l) (ports_suc (λ (k : ℕ). s -ℤ get_or (x ∷ xs) k (pos 0)) 0 (length xs))
    ∙ ap (λ (z : ℤ). (s -ℤ x) +ℤ z) (each_less s xs)
    ∙ omega (
      zarith,
      suc_ℤ-*ℤ (pos (length xs)) s,
      sub_read s x,
      sub_read n (sum_of xs),
      add_read (s -ℤ x) (n -ℤ sum_of xs),
      add_read n s,
      add_read x (sum_of xs),
      sub_read (pos (suc (length xs)) *ℤ s) (x +ℤ sum_of xs),
    )

all_less : (xs : List ℤ) → sum_of (sums_of xs) ≡ pos (length xs) *ℤ sum_of xs -ℤ sum_of xs
unfolding sums_of
all_less xs =
    ap sum_of (map_same (others_of xs) (λ (k : ℕ). sum_of xs -ℤ get_or xs k (pos 0)) (others_total xs) (ports_from 0 (length xs)))
    ∙ each_less (sum_of xs) xs

once_less : (n : ℕ) (s : ℤ) → pos (suc n) *ℤ s -ℤ s ≡ pos (suc n - 1) *ℤ s
once_less n s =
    let e : n ≡ suc n - 1 = omega arith in
    omega (zarith, suc_ℤ-*ℤ (pos n) s, add_read (pos n *ℤ s) s, sub_read (pos (suc n) *ℤ s) s) ∙ ap (λ (m : ℕ). pos m *ℤ s) e

-- THE THEOREM: before they are limited, the sums for all n ports add up to n - 1 times the sum of all signals
pub sums_add_up : (xs : List ℤ) → sum_of (sums_of xs) ≡ pos (length xs - 1) *ℤ sum_of xs
unfolding sum_of sums_of ports_from
sums_add_up [] = refl
sums_add_up (x ∷ xs) = all_less (x ∷ xs) ∙ once_less (length xs) (sum_of (x ∷ xs))
