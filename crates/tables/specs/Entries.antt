-- What holds of every entry of a table holds at any address, above the table too.
-- Assumes nothing.
use Rattle.std.specs.Prelude.{◌≡◌, Bool, List, ℕ, ◌≤◌, T, ltb, leb, ℤ, pos, length, get_or, drop}
use Rattle.std.proofs.Common.{sym, zero-le, ltb→lt, leb→le, le→leb, ltb-true, ltb-false, SFits}
use Rattle.std.proofs.Math.ListN.{get_or-eq_default}
use Rattle.std.specs.Int.Signed.{mag}
use Rattle.std.specs.Int.{w16}
use Rattle.laws.specs.Every.{each, each_at}
use Rattle.laws.specs.Order.{by_test}
use Rattle.g722.specs.Tables.{q6, qq6, qq5, qq4, qq2, ila}

-- what holds of every entry of a table, and of what an address above it gives, holds at any address
at_any : {A : Type 0} (d : A) (f : A → Bool) (xs : List A) → T (f d) → T (each (λ k x. f x) 0 xs) → (k : ℕ) → T (f (get_or xs k d))
at_any d f xs out t k =
    by_test (ltb k (length xs))
    (λ e. each_at d (λ k x. f x) xs t k (ltb-true k (length xs) e))
    (λ e. rw (get_or-eq_default xs d (ltb-false k (length xs) e)) out)

-- how large an entry is at most
pub entry_small : (m : ℕ) (qs : List ℕ) → T (each (λ k q. leb q m) 0 qs) → (k : ℕ) → get_or qs k 0 ≤ m
entry_small m qs t k = leb→le (get_or qs k 0) m (at_any 0 (λ q. leb q m) qs (le→leb 0 m zero-le) t k)

-- a signed entry fits 16 bits
pub entry_fits : (zs : List ℤ) → T (each (λ k z. ltb (mag z) 32768) 0 zs) → (k : ℕ) → SFits w16 (get_or zs k (pos 0))
entry_fits zs t k = record { sfits = ltb→lt (mag (get_or zs k (pos 0))) 32768 (at_any (pos 0) (λ z. ltb (mag z) 32768) zs tt t k) }

-- an address above a table
pub above_table : {A : Type 0} (xs : List A) (d : A) (k : ℕ) → length xs ≤ k → d ≡ get_or xs k d
above_table xs d k h = sym (get_or-eq_default xs d h)

-- ---- the levels and outputs of Table 14, and Table 15: 8 times an entry fits 16 bits

pub q6_small : (k : ℕ) → get_or (drop 1 q6) k 0 ≤ 4095
unfolding q6
q6_small = entry_small 4095 (drop 1 q6) tt

pub qq6_small : (k : ℕ) → get_or qq6 k 0 ≤ 4095
unfolding qq6
qq6_small = entry_small 4095 qq6 tt

pub qq5_small : (k : ℕ) → get_or qq5 k 0 ≤ 4095
unfolding qq5
qq5_small = entry_small 4095 qq5 tt

pub qq4_small : (k : ℕ) → get_or qq4 k 0 ≤ 4095
unfolding qq4
qq4_small = entry_small 4095 qq4 tt

pub qq2_small : (k : ℕ) → get_or qq2 k 0 ≤ 4095
unfolding qq2
qq2_small = entry_small 4095 qq2 tt

pub ila_small : (k : ℕ) → get_or ila k 0 ≤ 4095
unfolding ila
ila_small = entry_small 4095 ila tt
