-- One run of the coder over whole pairs of samples; a run may be cut between any two.
-- Assumes nothing.
use Rattle.std.specs.Prelude.{◌≡◌, refl, List, [], ◌∷◌, ◌++◌, ℕ, zero, suc, ◌*◌, ◌≤◌, ℤ, length, drop}
use Rattle.std.proofs.Common.{ap, zero-le, arith}
use Rattle.g722.specs.Arithmetic.{overloads}
use Rattle.g722.specs.Mirror.{lowt, hight}
use Rattle.g722.specs.Coding.{window, octet_of, coder_step, octets_of, coder_after, split_in_full}
use Rattle.g722.specs.declared.Coder.{Coder}
use Rattle.facts.specs.Overload.{overloads_most}

-- a list of whole pairs
pub data Pairs : List ℤ → Type 0 where
  none : Pairs []
  more : {x y : ℤ} {rest : List ℤ} → Pairs rest → Pairs (x ∷ y ∷ rest)

pub pairs : (s : List ℤ) (n : ℕ) → length s ≡ 2 * n → Pairs s
pairs [] n e = none
pairs (x ∷ []) n e = absurd (omega arith)
pairs (x ∷ y ∷ rest) zero e = absurd (omega arith)
pairs (x ∷ y ∷ rest) (suc n) e = more (pairs rest n (omega arith))

-- an octet of each pair
pub octets_length : {s : List ℤ} (c : Coder) → Pairs s → length s ≡ 2 * length (octets_of c s)
unfolding octets_of
octets_length c none = refl
octets_length c (more {x = x} {y = y} p) = omega (arith, octets_length (coder_step c x y) p)

-- no more signals are limited than there are samples
full_most : (past s : List ℤ) → length (split_in_full past s) ≤ length s
unfolding split_in_full
full_most past [] = zero-le
full_most past (x ∷ []) = zero-le
full_most past (x ∷ y ∷ rest) = omega (arith, full_most (drop 2 (past ++ (x ∷ y ∷ []))) rest)

pub counted_most : (past s : List ℤ) → overloads (split_in_full past s) ≤ length s
counted_most past s = omega (arith, overloads_most (split_in_full past s), full_most past s)

-- ---- cut in two

pub coder_join : {s : List ℤ} (c : Coder) (t : List ℤ) → Pairs s → coder_after c (s ++ t) ≡ coder_after (coder_after c s) t
unfolding coder_after
coder_join c t none = refl
coder_join c t (more {x = x} {y = y} p) = coder_join (coder_step c x y) t p

pub octets_join : {s : List ℤ} (c : Coder) (t : List ℤ) → Pairs s → octets_of c (s ++ t) ≡ octets_of c s ++ octets_of (coder_after c s) t
unfolding octets_of coder_after
octets_join c t none = refl
octets_join c t (more {x = x} {y = y} p) = ap (λ (l : List ℕ). octet_of c x y ∷ l) (octets_join (coder_step c x y) t p)

pub full_join : {s : List ℤ} (c : Coder) (t : List ℤ) → Pairs s
    → split_in_full c.past (s ++ t) ≡ split_in_full c.past s ++ split_in_full (coder_after c s).past t
unfolding split_in_full coder_after coder_step window
full_join c t none = refl
full_join c t (more {x = x} {y = y} p) =
    ap (λ (l : List ℤ). lowt (window c x y) ∷ hight (window c x y) ∷ l) (full_join (coder_step c x y) t p)
