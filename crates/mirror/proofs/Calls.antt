-- Two rows taken in turn.
-- Assumes nothing.
use Rattle.std.proofs.Common.{◌≡◌, refl, ap, ◌∙◌, ℕ, zero, suc, ◌+◌, ◌<◌, ℤ, length, arith}
use Rattle.std.proofs.Common.{cond, eqb, ◌*◌, ◌/◌, ◌%◌}
use Rattle.mirror.specs.Rows.{nth, in_turn}

-- a number of two rows taken in turn
pub turned : (f g : ℕ → ℤ) (n i k : ℕ) → k < 2 * n → nth (in_turn f g i n) k ≡ cond (eqb (k % 2) 0) (f (i + k / 2)) (g (i + k / 2))
unfolding in_turn
turned f g zero i k l = absurd (omega arith)
turned f g (suc n) i zero l = let e : i ≡ i + 0 = omega arith in ap f e
turned f g (suc n) i (suc zero) l = let e : i ≡ i + 0 = omega arith in ap g e
turned f g (suc n) i (suc (suc k)) l =
    let a : k % 2 ≡ suc (suc k) % 2 = omega arith in
    let b : suc i + k / 2 ≡ i + suc (suc k) / 2 = omega arith in
    turned f g n (suc i) k (omega arith) ∙ λ j. cond (eqb (a j) 0) (f (b j)) (g (b j))

pub turned_long : (f g : ℕ → ℤ) (n i : ℕ) → length (in_turn f g i n) ≡ 2 * n
unfolding in_turn
turned_long f g zero i = refl
turned_long f g (suc n) i = let e = turned_long f g n (suc i) in omega arith
