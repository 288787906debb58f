-- A written block in which one byte has changed, in whatever way, is refused with 7: `one_byte_changed`. So a single changed bit is, too.
-- Assumes nothing.
use Rattle.std.specs.Prelude.{◌≡◌, true, List, [], ◌∷◌, ◌++◌, ℕ, zero, suc, ◌+◌, ◌-◌, ◌*◌, ◌/◌, ◌%◌, ◌≤◌, ◌<◌, ltb, eqb, take, set, replicate}
use Rattle.std.proofs.Math.Path.{sym}
use Rattle.std.proofs.Common.{ap, ◌∙◌, le_of_suc-le-suc, not-suc-le-zero, arith, lit<, lit≤, length-set, get_or-set_same, ltb-true, ltb-false, eqb-true}
use Rattle.std.specs.Int.Bits.{bit_xor}
use Rattle.std.proofs.lemmas.Nat.{xor_lt, xor_comm}
use Rattle.std.proofs.Math.ListN.{length, get_or}
use Rattle.std.proofs.Math.Seq.{length-take-le, take-set-lt, get_or-take, get_or-set_other}
use Rattle.std.proofs.lemmas.List.{take-set-le}
use Rattle.std.proofs.lemmas.Bool.{eqb-false}
use Rattle.laws.specs.Order.{by_test}
use Rattle.block.proofs.Xor.{xor_twice}
use Rattle.block.specs.Check.{byte_step, check_from, check}
use Rattle.big_endian.specs.Numbers.{two_bytes, four_bytes, two_at}
use Rattle.block.specs.Layout.{body, block_of}
use Rattle.block.specs.Calls.{allowed, refused, read_call}
use Rattle.block.proofs.Formed.{allowed_bounds}
use Rattle.block.proofs.Numbers.{read_7}
use Rattle.block.proofs.Steps.{steps_same, byte_below}
use Rattle.block.proofs.Round.{block_length, check_right}

-- ---- bytes

pub data Bytes : List ℕ → Type 0 where
  none : Bytes []
  more : {x : ℕ} {s : List ℕ} → x < 256 → Bytes s → Bytes (x ∷ s)

joined : {s t : List ℕ} → Bytes s → Bytes t → Bytes (s ++ t)
joined none q = q
joined (more h p) q = more h (joined p q)

first : (k : ℕ) {s : List ℕ} → Bytes s → Bytes (take k s)
first zero p = none
first (suc k) none = none
first (suc k) (more h p) = more h (first k p)

zeros : (k : ℕ) → Bytes (replicate k 0)
zeros zero = none
zeros (suc k) = more (lit< tt) (zeros k)

last : (n : ℕ) → n % 256 < 256
last n = omega arith

two : (n : ℕ) → Bytes (two_bytes n)
two n = more (last (n / 256)) (more (last n) none)

four : (n : ℕ) → Bytes (four_bytes n)
four n = more (last (n / 16777216)) (more (last (n / 65536)) (two n))

written : (t n m : ℕ) (o : List ℕ) → Bytes o → m < 256 → Bytes (block_of t n m o)
unfolding block_of body
written t n m o p h =
    let front = joined (four t) (joined (four n) (more h (more (lit< tt) (two (length o))))) in
    joined (joined (joined front p) (zeros (510 - (12 + length o)))) (two (check (body t n m o)))

-- ---- a step tells registers apart, and bytes

xor_same : (a b c : ℕ) → bit_xor a c ≡ bit_xor b c → a ≡ b
xor_same a b c e = sym (xor_twice a c) ∙ ap (λ (x : ℕ). bit_xor x c) e ∙ xor_twice b c

met_same : (p q x y : ℕ) → p < 65536 → q < 65536 → x < 256 → y < 256
    → byte_step p x ≡ byte_step q y → bit_xor p (x * 256) ≡ bit_xor q (y * 256)
unfolding byte_step
met_same p q x y hp hq hx hy e =
    steps_same 8 _ _ (xor_lt 16 p (x * 256) hp (omega arith)) (xor_lt 16 q (y * 256) hq (omega arith)) e

byte_same : (r x y : ℕ) → r < 65536 → x < 256 → y < 256 → byte_step r x ≡ byte_step r y → x ≡ y
byte_same r x y hr hx hy e =
    let h = xor_same (x * 256) (y * 256) r (xor_comm (x * 256) r ∙ met_same r r x y hr hr hx hy e ∙ xor_comm r (y * 256)) in
    omega arith

register_same : {s : List ℕ} → Bytes s → (p q : ℕ) → p < 65536 → q < 65536 → check_from p s ≡ check_from q s → p ≡ q
unfolding check_from
register_same none p q hp hq e = e
register_same (more {x} h b) p q hp hq e =
    let f = register_same b (byte_step p x) (byte_step q x) (byte_below p x) (byte_below q x) e in
    xor_same p q (x * 256) (met_same p q x x hp hq h h f)

changed_same : {s : List ℕ} → Bytes s → (i v r : ℕ) → i < length s → v < 256 → r < 65536
    → check_from r (set s i v) ≡ check_from r s → v ≡ get_or s i 0
unfolding check_from
changed_same none i v r hi hv hr e = absurd (not-suc-le-zero hi)
changed_same (more {x} h b) zero v r hi hv hr e = byte_same r v x hr hv h (register_same b _ _ (byte_below r v) (byte_below r x) e)
changed_same (more {x} h b) (suc i) v r hi hv hr e = changed_same b i v (byte_step r x) (le_of_suc-le-suc hi) hv (byte_below r x) e

-- ---- so a changed byte is seen, be it before the check or in either byte of it

module _ (b : List ℕ) (n : length b ≡ 512) (bytes : Bytes b) (right : check (take 510 b) ≡ two_at b 510) where
  in_body : (i v : ℕ) → i < 510 → v < 256 → check (take 510 (set b i v)) ≡ two_at (set b i v) 510 → v ≡ get_or b i 0
  unfolding check
  in_body i v h hv e =
      let other : (j : ℕ) → 510 ≤ j → get_or (set b i v) j 0 ≡ get_or b j 0 = λ j k. get_or-set_other b i j v 0 (λ q. omega arith) in
      let f = rw (take-set-lt 510 b i v h, other 510 (lit≤ tt), other 511 (lit≤ tt)) at e in
      let l : length (take 510 b) ≡ 510 = length-take-le 510 b (omega arith) in
      changed_same (first 510 bytes) i v 65535 (omega arith) hv (lit< tt) (f ∙ sym right) ∙ get_or-take 510 b i 0 h

  in_high : (v : ℕ) → check (take 510 (set b 510 v)) ≡ two_at (set b 510 v) 510 → v ≡ get_or b 510 0
  in_high v e =
      let f = rw (
        take-set-le 510 b 510 v (lit≤ tt),
        get_or-set_same b 510 v 0 (omega arith),
        get_or-set_other b 510 511 v 0 (λ q. omega arith),
      ) at e in
      omega arith

  in_low : (v : ℕ) → check (take 510 (set b 511 v)) ≡ two_at (set b 511 v) 510 → v ≡ get_or b 511 0
  in_low v e =
      let f = rw (
        take-set-le 510 b 511 v (lit≤ tt),
        get_or-set_same b 511 v 0 (omega arith),
        get_or-set_other b 511 510 v 0 (λ q. omega arith),
      ) at e in
      omega arith

  seen : (i v : ℕ) → i < 512 → v < 256 → check (take 510 (set b i v)) ≡ two_at (set b i v) 510 → v ≡ get_or b i 0
  seen i v hi hv =
      by_test (ltb i 510) (λ f. in_body i v (ltb-true i 510 f) hv)
      (λ f. let h = ltb-false i 510 f in by_test (eqb i 510)
      (λ g. rw (eqb-true i 510 g) (in_high v))
      (λ g. let k = eqb-false i 510 g in let z : i ≡ 511 = omega arith in rw z (in_low v)))

  refused_7 : (i v : ℕ) → i < 512 → v < 256 → (v ≡ get_or b i 0 → ⊥) → read_call (set b i v) ≡ refused 7
  refused_7 i v hi hv d = read_7 (set b i v) (length-set b i v ∙ n) (λ e. d (seen i v hi hv e))

-- one byte of a written block, the check's two among them, is put to any other value: the block is refused with 7
pub one_byte_changed : (take block mode : ℕ) (octets : List ℕ) → Bytes octets → allowed mode (length octets) ≡ true
    → (i v : ℕ) → i < 512 → v < 256 → (v ≡ get_or (block_of take block mode octets) i 0 → ⊥)
    → read_call (set (block_of take block mode octets) i v) ≡ refused 7
one_byte_changed t n m o p h =
    let k = allowed_bounds m (length o) h in
    refused_7 (block_of t n m o) (block_length t n m o k.count_most) (written t n m o p (omega arith))
    (check_right t n m o k.count_most)
