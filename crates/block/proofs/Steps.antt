-- The eight steps that a byte takes: they can be made at once, they stay within 16 bits, and they can be undone.
-- Assumes nothing.
use Rattle.std.specs.Prelude.{◌≡◌, refl, Bool, true, false, cond, List, [], ◌∷◌, ℕ, zero, suc, ◌+◌, ◌*◌, ◌/◌, ◌%◌, ◌≤◌, ◌<◌, eqb}
use Rattle.std.proofs.Common.{sym, ap, ap₂, ◌∙◌, div-add-mod', arith, eqb→eq, lit<, eqb-true}
use Rattle.std.specs.Int.Bits.{bit_xor, xor_zero_r, xor_shifted}
use Rattle.std.proofs.lemmas.Nat.{xor_lt, xor_comm, xor_shr, xor_mod}
use Rattle.std.proofs.lemmas.Bool.{eqb-false}
use Rattle.laws.specs.Order.{by_test}
use Rattle.laws.specs.Every.{below_at}
use Rattle.block.proofs.Xor.{xor_assoc, xor_twice, xor_odd, xor_double}
use Rattle.block.specs.Check.{bit_step, bit_steps, byte_step, check_from, check}

-- ---- a number that meets the lower bits moves up with them

through : (t : Bool) (m p l : ℕ) → cond t (bit_xor (bit_xor m l) p) (bit_xor m l) ≡ bit_xor (cond t (bit_xor m p) m) l
through true m p l = xor_assoc m l p ∙ ap (bit_xor m) (xor_comm l p) ∙ sym (xor_assoc m p l)
through false m p l = refl

moves : (a l : ℕ) → l < 32768 → bit_step (bit_xor a l) ≡ bit_xor (bit_step a) (l * 2)
unfolding bit_step
moves a l h =
    let top : bit_xor a l / 32768 ≡ a / 32768 = xor_shr a l 15 ∙ ap (bit_xor (a / 32768)) (omega arith) ∙ xor_zero_r (a / 32768) in
    let rest : bit_xor a l % 32768 * 2 ≡ bit_xor (a % 32768 * 2) (l * 2) =
    ap (λ (x : ℕ). x * 2) (xor_mod a l 15 ∙ ap (bit_xor (a % 32768)) (omega arith)) ∙ xor_double (a % 32768) l in
    rw (top, rest) (through (eqb (a / 32768) 1) (a % 32768 * 2) 4129 (l * 2))

abbrev doubled : ℕ → ℕ → ℕ
doubled zero l = l
doubled (suc k) l = doubled k (l * 2)

doubled_le : (k l : ℕ) → l ≤ doubled k l
doubled_le zero l = omega arith
doubled_le (suc k) l = omega (arith, doubled_le k (l * 2))

all_move : (k a l : ℕ) → doubled k l < 65536 → bit_steps k (bit_xor a l) ≡ bit_xor (bit_steps k a) (doubled k l)
unfolding bit_steps
all_move zero a l h = refl
all_move (suc k) a l h = ap (bit_steps k) (moves a l (omega (arith, doubled_le k (l * 2)))) ∙ all_move k (bit_step a) (l * 2) h

-- ---- eight steps at once: the lower half moves up, and meets what the upper half becomes, by one computed check of all 256

abbrev spread : ℕ → ℕ
spread t = bit_xor (bit_xor (t % 16 * 4096) (t * 32)) t

abbrev upper : ℕ → ℕ
upper high = spread (bit_xor high (high / 16))

upper_right : (high : ℕ) → high < 256 → bit_steps 8 (high * 256) ≡ upper high
unfolding bit_steps bit_step
upper_right high h = eqb→eq _ _ (below_at 256 (λ n. eqb (bit_steps 8 (n * 256)) (upper n)) tt high h)

pub at_once : (met : ℕ) → met < 65536 → bit_steps 8 met ≡ bit_xor (upper (met / 256)) (met % 256 * 256)
at_once met h =
    let parts : met ≡ bit_xor (met / 256 * 256) (met % 256) =
    sym (xor_shifted (met / 256) 8 (met % 256) (omega arith) ∙ div-add-mod' met 256) in
    ap (bit_steps 8) parts ∙ all_move 8 (met / 256 * 256) (met % 256) (omega arith)
    ∙ ap₂ bit_xor (upper_right (met / 256) (omega arith)) (omega arith)

-- ---- the register stays within 16 bits

step_below : (reg : ℕ) → bit_step reg < 65536
unfolding bit_step
step_below reg =
    let h : reg % 32768 * 2 < 65536 = omega arith in
    by_test (eqb (reg / 32768) 1) (λ e. rw e (xor_lt 16 (reg % 32768 * 2) 4129 h (lit< tt))) (λ e. rw e h)

steps_below : (k reg : ℕ) → reg < 65536 → bit_steps k reg < 65536
unfolding bit_steps
steps_below zero reg h = h
steps_below (suc k) reg h = steps_below k (bit_step reg) (step_below reg)

pub byte_below : (reg byte : ℕ) → byte_step reg byte < 65536
unfolding byte_step bit_steps
byte_below reg byte = let met = bit_xor reg (byte * 256) in steps_below 7 (bit_step met) (step_below met)

from_below : (bytes : List ℕ) (reg : ℕ) → reg < 65536 → check_from reg bytes < 65536
unfolding check_from
from_below [] reg h = h
from_below (byte ∷ rest) reg h = from_below rest (byte_step reg byte) (byte_below reg byte)

pub check_below : (bytes : List ℕ) → check bytes < 65536
unfolding check
check_below bytes = from_below bytes 65535 (lit< tt)

-- ---- a step undone: a register that has taken the polynomial in is odd. So two registers that step alike are one

abbrev undo : ℕ → ℕ
undo reg = cond (eqb (reg % 2) 1) (bit_xor reg 4129 / 2 + 32768) (reg / 2)

undone : (reg : ℕ) → reg < 65536 → undo (bit_step reg) ≡ reg
unfolding bit_step
undone reg h =
    let m = reg % 32768 * 2 in
    let z : m % 2 ≡ 0 = omega arith in
    let o : bit_xor m 4129 % 2 ≡ 1 = xor_odd m 4129 ∙ ap (λ (x : ℕ). bit_xor x 1) z in
    by_test (eqb (reg / 32768) 1)
    (λ e. let f = eqb-true (reg / 32768) 1 e in rw (e, o, xor_twice m 4129) (omega arith))
    (λ e. let f = eqb-false (reg / 32768) 1 e in rw (e, z) (omega arith))

pub steps_same : (k a b : ℕ) → a < 65536 → b < 65536 → bit_steps k a ≡ bit_steps k b → a ≡ b
unfolding bit_steps
steps_same zero a b ha hb e = e
steps_same (suc k) a b ha hb e =
    sym (undone a ha) ∙ ap undo (steps_same k (bit_step a) (bit_step b) (step_below a) (step_below b) e) ∙ undone b hb
