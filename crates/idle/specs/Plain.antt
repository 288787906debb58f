-- A chain of sums that stop is the plain sum where neither its positive nor its negative terms, added up, leave 16 bits.
-- Assumes nothing.
use Rattle.std.specs.Prelude.{◌≡◌, refl, Bool, true, false, cond, ◌&&◌, ℕ, zero, suc, ◌+◌, ◌*◌, ◌≤◌, ltb, ℤ, pos, negsuc, neg_ℤ, nat_abs, ◌+ℤ◌, ◌*ℤ◌}
use Rattle.std.proofs.Common.{sym, ap, ◌∙◌, div-add-mod', arith, ltb-true, le-ltb, lt-ltb}
use mathlib.Core.List.{List, [], ◌∷◌, zip_with}
use Rattle.std.specs.Int.Signed.{lt_z, shr_z}
use Rattle.std.proofs.lemmas.Bool.{lt-leb}
use Rattle.laws.specs.Order.{up, dn, zarith, add_read, by_test, no}
use Rattle.laws.specs.Both.{left_true, right_true}
use Rattle.laws.specs.Clamp.{clamp, clamp_id}
use Rattle.g722.specs.Arithmetic.{neg, stop, add, sub, mul, negative, same_sign, within, equal}
use Rattle.g722.specs.Band.{term, sums, gain, upzero}

-- ---- a term before its stop

unfoldable pub raw : ℤ → ℤ → ℤ
raw b d = shr_z (b *ℤ add d d) 32768

term_raw : (b d : ℤ) → term b d ≡ stop (raw b d)
unfolding term raw mul
term_raw b d = refl

-- of two numbers of 16 bits it is at most 32768 in size
pub shr_small : (z : ℤ) → nat_abs z ≤ 32768 * 32768 → nat_abs (shr_z z 32768) ≤ 32768
shr_small (pos n) h = omega (arith, div-add-mod' n 32768)
shr_small (negsuc n) h = omega (arith, div-add-mod' n 32768)

-- ---- the sizes of the positive and of the negative terms, added up

unfoldable pub ups : List ℤ → ℕ
ups [] = 0
ups (w ∷ ws) = up w + ups ws

unfoldable pub dns : List ℤ → ℕ
dns [] = 0
dns (w ∷ ws) = dn w + dns ws

-- neither leave 16 bits
unfoldable pub fits : List ℤ → Bool
fits ws = ltb (ups ws) 32768 && ltb (dns ws) 32769

-- ---- the plain sum

unfoldable pub total : List ℤ → ℤ
total [] = pos 0
total (w ∷ ws) = w +ℤ total ws

pub total_sides : (ws : List ℤ) → up (total ws) + dns ws ≡ dn (total ws) + ups ws
unfolding total ups dns
total_sides [] = refl
total_sides (w ∷ ws) = omega (arith, add_read w (total ws), total_sides ws)

-- ---- the chain of stopping sums

unfoldable stopped : List ℤ → List ℤ
stopped [] = []
stopped (w ∷ ws) = stop w ∷ stopped ws

terms : (b d : List ℤ) → zip_with term b d ≡ stopped (zip_with raw b d)
unfolding zip_with stopped
terms [] ds = refl
terms (b ∷ bs) [] = refl
terms (b ∷ bs) (d ∷ ds) = λ i. term_raw b d i ∷ terms bs ds i

-- a sum without a stop
add_plain : (s w : ℤ) → up w ≤ 32767 → dn w ≤ 32768 → up s + up w ≤ 32767 + dn s → dn s + dn w ≤ 32768 + up s → add s (stop w) ≡ s +ℤ w
unfolding add
add_plain s w a b h k =
    let e : stop w ≡ w = clamp_id (neg 32768) (pos 32767) w (omega zarith) (omega zarith) in
    ap (λ (v : ℤ). stop (s +ℤ v)) e
    ∙ clamp_id (neg 32768) (pos 32767) (s +ℤ w) (omega (zarith, add_read s w)) (omega (zarith, add_read s w))

-- the chain from s on, r being what it comes to
plain : (ws : List ℤ) (s r : ℤ) → ups ws ≤ 32767 → dns ws ≤ 32768 → up s + ups ws ≤ 32767 + dn s → dn s + dns ws ≤ 32768 + up s
    → sums s (stopped ws) ≡ r → up r + dn s + dns ws ≡ dn r + up s + ups ws
unfolding sums stopped ups dns
plain [] s r a b h k e = omega zarith
plain (w ∷ ws) s r a b h k e =
    let f = add_plain s w (omega arith) (omega arith) (omega arith) (omega arith) in
    let q = add_read s w in
    omega (arith, plain ws (s +ℤ w) r (omega arith) (omega arith) (omega arith) (omega arith) (sym (ap (λ (v : ℤ). sums v (stopped ws)) f) ∙ e))

whole : (ws : List ℤ) → fits ws ≡ true → total ws ≡ sums (pos 0) (stopped ws)
unfolding fits
whole ws e =
    let h = ltb-true (ups ws) 32768 (left_true (ltb (ups ws) 32768) (ltb (dns ws) 32769) e) in
    let k = ltb-true (dns ws) 32769 (right_true (ltb (ups ws) 32768) (ltb (dns ws) 32769) e) in
    let p = plain ws (pos 0) (sums (pos 0) (stopped ws)) (omega arith) (omega arith) (omega arith) (omega arith) refl in
    omega (zarith, total_sides ws)

-- where both fit, the plain sum is what the chain gives
pub plain_whole : (b d : List ℤ) → fits (zip_with raw b d) ≡ true → total (zip_with raw b d) ≡ sums (pos 0) (zip_with term b d)
plain_whole b d e = whole (zip_with raw b d) e ∙ ap (sums (pos 0)) (sym (terms b d))

-- ---- UPZERO by a signed gain

unfoldable pub signed_gain : ℤ → ℤ
signed_gain d = cond (negative d) (neg 128) (cond (lt_z (pos 0) d) (pos 128) (pos 0))

pub upzero_signed : (d b di : ℤ) → add (cond (negative di) (neg_ℤ (signed_gain d)) (signed_gain d)) (mul b (pos 32640)) ≡ upzero d b di
unfolding upzero signed_gain gain same_sign equal within sub clamp
upzero_signed (pos zero) b (pos n) = simp (le-ltb n 0 (omega arith))
upzero_signed (pos zero) b (negsuc n) = refl
upzero_signed (pos (suc m)) b (pos n) = simp (le-ltb n 0 (omega arith), lt-leb (suc m) 0 (omega arith), lt-ltb 0 (suc m) (omega arith), le-ltb (suc m) 0 (omega arith))
upzero_signed (pos (suc m)) b (negsuc n) = simp (lt-leb (suc m) 0 (omega arith), lt-ltb 0 (suc m) (omega arith), le-ltb (suc m) 0 (omega arith))
upzero_signed (negsuc m) b (pos n) = simp (le-ltb n 0 (omega arith))
upzero_signed (negsuc m) b (negsuc n) = refl

pub signed_gain_small : (d : ℤ) → nat_abs (signed_gain d) ≤ 128
unfolding signed_gain
signed_gain_small d =
    by_test (negative d) (λ e. rw e (omega arith)) (λ e. rw e (by_test (lt_z (pos 0) d) (λ f. rw f (omega arith)) (λ f. rw f (omega arith))))

-- what is above 0 of a number
pub up_below : (z : ℤ) → negative z ≡ true → pos 0 ≡ pos (up z)
up_below (pos n) e = absurd (omega (arith, ltb-true n 0 e))
up_below (negsuc n) e = refl

pub up_above : (z : ℤ) → negative z ≡ false → z ≡ pos (up z)
up_above (pos n) e = refl
up_above (negsuc n) e = no e
