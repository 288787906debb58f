-- Lengths that fit: what a call that is not refused for them knows.
-- Assumes nothing.
use Rattle.std.specs.Prelude.{◌≡◌, refl, Bool, true, false, not, ◌||◌, ℕ, ◌*◌, ◌≤◌, ltb, eqb}
use Rattle.std.proofs.Common.{eqb-true, ltb-false}
use Rattle.laws.specs.Order.{no}
use Rattle.g722.specs.Coding.{misfit}
use Rattle.g722.specs.Steps.{unpaired}

passed : (a b : Bool) → (a || not b) ≡ false → b ≡ true
passed true b e = no e
passed false true e = refl
passed false false e = no e

not_first : (a b : Bool) → (a || b) ≡ false → a ≡ false
not_first true b e = no e
not_first false b e = refl

pub not_over : (n : ℕ) (t : Bool) → (ltb 8000 n || t) ≡ false → n ≤ 8000
not_over n t e = ltb-false 8000 n (not_first (ltb 8000 n) t e)

pub not_over_either : (n : ℕ) (s t : Bool) → (ltb 8000 n || s || t) ≡ false → n ≤ 8000
not_over_either n s t e = not_over n s (not_first (ltb 8000 n || s) t e)

pub twice : (samples octets : ℕ) → misfit samples octets ≡ false → samples ≡ 2 * octets
unfolding misfit
twice s o e = eqb-true s (2 * o) (passed (ltb 8000 o) (eqb s (2 * o)) e)

pub few : (samples octets : ℕ) → misfit samples octets ≡ false → octets ≤ 8000
unfolding misfit
few s o e = not_over o (not (eqb s (2 * o))) e

-- of the first step
pub paired : (octets low high : ℕ) → unpaired octets low high ≡ false → (low ≡ octets) × (high ≡ octets)
unfolding unpaired
paired o l h e = (
  eqb-true l o (passed (ltb 8000 o) (eqb l o) (not_first (ltb 8000 o || not (eqb l o)) (not (eqb h o)) e)),
  eqb-true h o (passed (ltb 8000 o || not (eqb l o)) (eqb h o) e),
)

pub few_octets : (octets low high : ℕ) → unpaired octets low high ≡ false → octets ≤ 8000
unfolding unpaired
few_octets o l h e = not_over_either o (not (eqb l o)) (not (eqb h o)) e

-- of the second
pub matched : (low high samples : ℕ) → (misfit samples low || not (eqb high low)) ≡ false → (high ≡ low) × (samples ≡ 2 * low)
matched l h s e = (
  eqb-true h l (passed (misfit s l) (eqb h l) e),
  twice s l (not_first (misfit s l) (not (eqb h l)) e),
)

pub few_pairs : (low high samples : ℕ) → (misfit samples low || not (eqb high low)) ≡ false → low ≤ 8000
few_pairs l h s e = few s l (not_first (misfit s l) (not (eqb h l)) e)
