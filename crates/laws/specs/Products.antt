-- Products on ℤ for omega, and that a product spreads over a sum.
-- Assumes nothing.
use Rattle.std.specs.Prelude.{◌≡◌, ℕ, suc, ◌+◌, ◌*◌, ℤ, pos, negsuc, ◌+ℤ◌, ◌*ℤ◌}
use Rattle.std.proofs.Common.{ap, arith}
use Rattle.std.proofs.Math.IntN.{pos-*ℤ-negsuc, negsuc-*ℤ-pos}
use Rattle.laws.specs.Order.{up, dn, up_neg, dn_neg, add_read, same}

times_read : (a c : ℤ) → up (a *ℤ c) + up a * dn c + dn a * up c ≡ dn (a *ℤ c) + up a * up c + dn a * dn c
times_read (pos m) (pos n) = omega arith
times_read (pos m) (negsuc n) = rw pos-*ℤ-negsuc (omega (arith, up_neg (pos (m * suc n)), dn_neg (pos (m * suc n))))
times_read (negsuc m) (pos n) = rw negsuc-*ℤ-pos (omega (arith, up_neg (pos (suc m * n)), dn_neg (pos (suc m * n))))
times_read (negsuc m) (negsuc n) = omega arith

pub times_sum : (a b c : ℤ) → (a +ℤ b) *ℤ c ≡ a *ℤ c +ℤ b *ℤ c
times_sum a b c =
    same _ _ (omega (
      arith,
      times_read a c,
      times_read b c,
      times_read (a +ℤ b) c,
      add_read (a *ℤ c) (b *ℤ c),
      ap (λ (x : ℕ). x * up c) (add_read a b),
      ap (λ (x : ℕ). x * dn c) (add_read a b),
    ))
