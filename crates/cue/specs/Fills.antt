-- Bytes that fill the bits that octets give up.
-- Assumes nothing.
use Rattle.std.specs.Prelude.{◌≡◌, ℕ, ◌*◌, ◌-◌, ◌≤◌, ◌<◌, ltb, eqb}
use Rattle.std.proofs.Common.{mul-le-mul, arith, ltb-false, eqb-true}
use Rattle.laws.specs.Order.{by_test}
use Rattle.g722.specs.Cue.{given_up, unfilled, data_number}

-- the bytes fill k bits of each octet
pub record Fills (k octets bytes : ℕ) : Type 0 where
  pub some : 0 < k
  pub most : k ≤ 2
  pub full : 8 * bytes ≡ k * octets
  pub few : k * octets ≤ 16000

-- a call that is not refused was given bytes that fill the octets
pub passed : (mode o b : ℕ) → data_number mode o b ≡ 0 → Fills (given_up mode) o b
unfolding data_number unfilled
passed mode o b e =
    by_test (ltb 3 mode) (λ s. absurd (omega (arith, rw s at e)))
    (λ s. by_test (ltb mode 2) (λ t. absurd (omega (arith, rw (s, t) at e)))
    (λ t. by_test (ltb 8000 o) (λ u. absurd (omega (arith, rw (s, t, u) at e)))
    (λ u. by_test (eqb (8 * b) (given_up mode * o)) (λ v.
    let m : mode - 1 ≤ 2 = omega (arith, ltb-false 3 mode s) in
    let l : (mode - 1) * o ≤ 2 * 8000 = mul-le-mul m (ltb-false 8000 o u) in
    record { some = omega (arith, ltb-false mode 2 t); most = m; full = eqb-true _ _ v; few = omega arith })
    (λ v. absurd (omega (arith, rw (s, t, u, v) at e))))))
