-- ILB as the code keeps it, four entries to a row, and the scale factor that an entry gives when it is shifted.
-- Assumes nothing.
use Rattle.std.specs.Prelude.{◌≡◌, Bool, ℕ, ◌+◌, ◌*◌, ◌/◌, ◌%◌, ◌^◌, ◌<◌, eqb, get_or}
use Rattle.std.proofs.Common.{◌∙◌, ap, sym, mod-eq_of_lt, arith, eqb→eq}
use Rattle.laws.specs.Every.{below_at}
use Rattle.g722.specs.Tables.{ila, ilb}
use Rattle.g722.specs.Checks.{ila_is_ilb}
use Rattle.tables.specs.Entries.{ila_small}

-- four entries in one number, 16 bits each, the first lowest
unfoldable pub joined : ℕ → ℕ → ℕ → ℕ → ℕ
joined a b c d = a + 65536 * (b + 65536 * (c + 65536 * d))

-- row k of ILB
unfoldable pub row : ℕ → ℕ
row k = joined (get_or ilb (4 * k) 0) (get_or ilb (4 * k + 1) 0) (get_or ilb (4 * k + 2) 0) (get_or ilb (4 * k + 3) 0)

-- an entry read out of its row
stands : ℕ → Bool
unfolding ilb row joined
stands k = eqb (row (k / 4) / 2 ^ (16 * (k % 4)) % 65536) (get_or ilb k 0)

pub entry_of_row : (k : ℕ) → k < 32 → row (k / 4) / 2 ^ (16 * (k % 4)) % 65536 ≡ get_or ilb k 0
unfolding ilb row joined stands
entry_of_row k h = eqb→eq (row (k / 4) / 2 ^ (16 * (k % 4)) % 65536) (get_or ilb k 0) (below_at 32 stands tt k h)

-- method 2 in 32 bits: the entry x of ILB, k / 32 places up, then 10 down, then 2 up, is what method 1 gives at the address k
pub by_method_2 : (k x : ℕ) → k < 353 → x ≡ get_or ilb (k % 32) 0 → x * 2 ^ (k / 32) % 2 ^ 32 / 1024 * 4 ≡ (get_or ila k 0 + 1) * 4
by_method_2 k x h e =
    let s = ila_small k in
    let r = ila_is_ilb k h in
    let small : get_or ilb (k % 32) 0 * 2 ^ (k / 32) < 2 ^ 32 = omega arith in
    ap (λ (y : ℕ). y * 2 ^ (k / 32) % 2 ^ 32 / 1024 * 4) e
    ∙ ap (λ (n : ℕ). n / 1024 * 4) (mod-eq_of_lt small)
    ∙ ap (λ (n : ℕ). n * 4) (sym r)
