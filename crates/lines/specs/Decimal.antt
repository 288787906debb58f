-- Numbers in decimal, as bytes.
-- Assumes nothing.
use Rattle.std.specs.Prelude.{◌≡◌, refl, cond, List, [], ◌∷◌, ◌++◌, ℕ, zero, suc, ◌+◌, ◌/◌, ◌%◌, ◌^◌, ◌≤◌, ◌<◌, ltb, ℤ, pos, negsuc, length}
use Rattle.std.proofs.Common.{ap, ◌∙◌, arith, length-append, lt-ltb, le-ltb, ltb-true, ltb-false}
use Rattle.laws.specs.Order.{by_test}

-- the digits of n: those of n / 10 and then n % 10. So many turns are enough where n is not above them
unfoldable pub spelled : ℕ → ℕ → List ℕ
spelled zero n = (48 + n) ∷ []
spelled (suc turns) n = cond (ltb n 10) ((48 + n) ∷ []) (spelled turns (n / 10) ++ ((48 + n % 10) ∷ []))

unfoldable pub decimal : ℕ → List ℕ
decimal n = spelled n n

-- a minus sign stands before a negative number
unfoldable pub signed : ℤ → List ℕ
signed (pos n) = decimal n
signed (negsuc n) = 45 ∷ decimal (suc n)

-- ---- the two equations that say what `decimal` is

one : (turns n : ℕ) → n < 10 → spelled turns n ≡ (48 + n) ∷ []
unfolding spelled
one zero n h = refl
one (suc turns) n h = rw (lt-ltb n 10 h)

enough : (a b n : ℕ) → n ≤ a → n ≤ b → spelled a n ≡ spelled b n
unfolding spelled
enough zero b n h k = rw (one b n (omega arith))
enough (suc a) zero n h k = one (suc a) n (omega arith)
enough (suc a) (suc b) n h k =
    by_test (ltb n 10) (λ e. rw e)
    (λ e. let l = ltb-false n 10 e in rw (e, enough a b (n / 10) (omega arith) (omega arith)))

pub decimal_one : (n : ℕ) → n < 10 → decimal n ≡ (48 + n) ∷ []
unfolding decimal
decimal_one n h = one n n h

more : (m n : ℕ) → n ≡ suc m → 10 ≤ n → spelled n n ≡ spelled (n / 10) (n / 10) ++ ((48 + n % 10) ∷ [])
unfolding spelled
more m n e h =
    ap (λ (k : ℕ). spelled k n) e ∙ rw (le-ltb n 10 h, enough m (n / 10) (n / 10) (omega arith) (omega arith))

pub decimal_more : (n : ℕ) → 10 ≤ n → decimal n ≡ decimal (n / 10) ++ ((48 + n % 10) ∷ [])
unfolding decimal
decimal_more zero h = absurd (omega arith)
decimal_more (suc m) h = more m (suc m) refl h

-- ---- how many digits

pub decimal_most : (k n : ℕ) → n < 10 ^ suc k → length (decimal n) ≤ suc k
decimal_most zero n h = rw (decimal_one n (omega arith)) (omega arith)
decimal_most (suc k) n h =
    by_test (ltb n 10) (λ e. rw (decimal_one n (ltb-true n 10 e)) (omega arith))
    (λ e. rw (decimal_more n (ltb-false n 10 e), length-append) (omega (arith, decimal_most k (n / 10) (omega arith))))

pub decimal_some : (n : ℕ) → 1 ≤ length (decimal n)
decimal_some n =
    by_test (ltb n 10) (λ e. rw (decimal_one n (ltb-true n 10 e)) (omega arith))
    (λ e. rw (decimal_more n (ltb-false n 10 e), length-append) (omega arith))
