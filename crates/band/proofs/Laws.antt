-- The rows of the transversal part, on plain lists.
-- Assumes nothing.
use Rattle.std.proofs.Common.{◌≡◌, refl, ◌∙◌, ap, ◌∷◌, [], ◌++◌, List, ℕ, ◌+◌, ℤ, length, set, take, drop, arith}
use mathlib.Core.List.{zip_with}
use Rattle.std.specs.List.{zip, fold}
use Rattle.std.proofs.Math.Seq.{set-append_seam}
use Rattle.g722.specs.Arithmetic.{add}
use Rattle.g722.specs.Band.{slide, sums, term}

-- the oldest turned to the end, and the newest put in its place
pub slid : (past : List ℤ) (n : ℕ) (x : ℤ) → length past ≡ n + 1 → set (drop 1 past ++ take 1 past) n x ≡ slide past x
unfolding slide
slid [] n x e = absurd (omega arith)
slid (y ∷ past) n x e =
    let l : n ≡ length past = omega arith in
    ap (λ (k : ℕ). set (past ++ (y ∷ [])) k x) l ∙ set-append_seam past y [] x

-- the sum of the terms, coefficient by coefficient
pub summed : (s : ℤ) (b d : List ℤ) → fold (λ (u : ℤ) p. add u (term p.0 p.1)) s (zip b d) ≡ sums s (zip_with term b d)
unfolding sums zip_with
summed s [] d = refl
summed s (x ∷ b) [] = refl
summed s (x ∷ b) (y ∷ d) = summed (add s (term x y)) b d
