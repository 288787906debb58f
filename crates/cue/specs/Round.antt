-- What the cue channel promises, by its definitions alone.
-- Assumes nothing.
use Rattle.std.specs.Prelude.{◌≡◌, refl, List, [], ◌∷◌, ◌++◌, map, ℕ, zero, suc, ◌+◌, ◌*◌, ◌/◌, ◌-◌, ◌^◌, ◌≤◌, ◌<◌, eqb, length, take, drop}
use Rattle.std.proofs.Common.{sym, ap, ap₂, ◌∙◌, arith, length-take, length-drop, take-append-drop, length-take-le, take_at, drop_at, eqb-true}
use Rattle.std.proofs.Math.Nat.{pow-le-pow_right, div-eq_of_lt-le, div-eq_of_lt, div-div-eq-div-mul}
use Rattle.laws.specs.Order.{by_test}
use Rattle.g722.specs.Cue.{bits, bits_of, spelt, gathered, carrying, given_up, data_number, data_call, put_call, take_call}
use Rattle.cue.specs.Fills.{passed}
use Rattle.cue.specs.Bits.{Below, below_take, below_drop, below_bits_of}
use Rattle.cue.specs.Bits.{length-bits, length-bits_of, spelt_less, spelt_after, bits_spelt, spelt_bits}

-- ---- the bits put in are those taken out

length-carrying : (k : ℕ) (octets from : List ℕ) → length (carrying k octets from) ≡ length octets
unfolding carrying
length-carrying k [] from = refl
length-carrying k (o ∷ rest) from = ap suc (length-carrying k rest (drop k from))

last_bits : (k q : ℕ) (l : List ℕ) → length l ≡ k → Below 2 l → bits k (q * 2 ^ k + spelt 0 l) ≡ l
last_bits k q l e p = rw (← e, spelt_after q l) (bits_spelt q l p)

bits_back : (k : ℕ) (octets from : List ℕ) → length from ≡ k * length octets → Below 2 from → bits_of k (carrying k octets from) ≡ from
unfolding bits_of carrying
bits_back k [] [] e p = refl
bits_back k [] (b ∷ from) e p = absurd (omega arith)
bits_back k (o ∷ rest) from e p =
    ap₂ ◌++◌ (last_bits k (o / 2 ^ k) (take k from) (length-take-le k from (omega arith)) (below_take 2 k from p))
    (bits_back k rest (drop k from) (rw (length-drop k from) (omega arith)) (below_drop 2 k from p))
    ∙ take-append-drop k from

byte_back : (x : ℕ) → x < 256 → spelt 0 (bits 8 x) ≡ x
byte_back x h = ap (λ (n : ℕ). spelt n (bits 8 x)) (sym (div-eq_of_lt h)) ∙ spelt_bits 8 x

bytes_back : (bytes : List ℕ) → Below 256 bytes → gathered (length bytes) (bits_of 8 bytes) ≡ bytes
unfolding gathered bits_of
bytes_back [] p = refl
bytes_back (x ∷ rest) p =
    rw (take_at (bits 8 x) (bits_of 8 rest) 8 (length-bits 8 x), drop_at (bits 8 x) (bits_of 8 rest) 8 (length-bits 8 x))
    (ap₂ ◌∷◌ (byte_back x p.0) (bytes_back rest p.1))

-- Taking out what was put in gives the data back.
pub given_back : (mode : ℕ) (octets bytes old : List ℕ)
    → data_number mode (length octets) (length bytes) ≡ 0 → Below 256 bytes → length old ≡ length bytes
    → (take_call mode (put_call mode octets bytes).left old).left ≡ bytes
unfolding put_call take_call data_call
given_back mode octets bytes old e p h =
    simp (e, length-carrying, h, e)
    (rw (bits_back (given_up mode) octets (bits_of 8 bytes) (length-bits_of 8 bytes ∙ (passed mode _ _ e).full) (below_bits_of 8 bytes))
    (bytes_back bytes p))

-- ---- every other bit stays

last_only : (k q : ℕ) (l : List ℕ) → length l ≤ k → Below 2 l → (q * 2 ^ k + spelt 0 l) / 2 ^ k ≡ q
last_only k q l h p =
    let less = spelt_less l p in
    let wide : 2 ^ length l ≤ 2 ^ k = pow-le-pow_right (omega arith) h in
    div-eq_of_lt-le (2 ^ k) (omega arith) (omega arith)

-- what is known of octets without their last k bits stays known
stays : (k : ℕ) (f : ℕ → ℕ) (octets from : List ℕ) → Below 2 from
    → map (λ (o : ℕ). f (o / 2 ^ k)) (carrying k octets from) ≡ map (λ (o : ℕ). f (o / 2 ^ k)) octets
unfolding carrying
stays k f [] from p = refl
stays k f (o ∷ rest) from p =
    ap₂ ◌∷◌ (ap f (last_only k (o / 2 ^ k) (take k from) (rw (length-take k from) (omega arith)) (below_take 2 k from p)))
    (stays k f rest (drop k from) (below_drop 2 k from p))

-- Putting bits in changes no bit above the last k.
pub kept : (k : ℕ) (octets from : List ℕ) → Below 2 from
    → map (λ (o : ℕ). o / 2 ^ k) (carrying k octets from) ≡ map (λ (o : ℕ). o / 2 ^ k) octets
kept k = stays k (λ q. q)

four : (k : ℕ) → k ≤ 2 → 2 ^ k * 2 ^ (2 - k) ≡ 4
four zero h = refl
four (suc zero) h = refl
four (suc (suc zero)) h = refl
four (suc (suc (suc k))) h = absurd (omega arith)

-- Where k is at most 2, the upper six bits stay.
pub kept_six : (k : ℕ) (octets from : List ℕ) → k ≤ 2 → Below 2 from
    → map (λ (o : ℕ). o / 4) (carrying k octets from) ≡ map (λ (o : ℕ). o / 4) octets
kept_six k octets from h p =
    let e : (o : ℕ) → o / 2 ^ k / 2 ^ (2 - k) ≡ o / 4 =
    λ o. div-div-eq-div-mul o (2 ^ k) (2 ^ (2 - k)) ∙ ap (λ (m : ℕ). o / m) (four k h) in
    let same : (os : List ℕ) → map (λ (o : ℕ). o / 2 ^ k / 2 ^ (2 - k)) os ≡ map (λ (o : ℕ). o / 4) os =
    λ os i. map (λ (o : ℕ). e o i) os in
    sym (same (carrying k octets from)) ∙ (stays k (λ q. q / 2 ^ (2 - k)) octets from p ∙ same octets)

module _ (mode : ℕ) (octets bytes : List ℕ) where
  -- what stays if data is put in stays after every call, since a refused one leaves the octets as they were
  after : (f : ℕ → ℕ)
      → (data_number mode (length octets) (length bytes) ≡ 0 → map f (carrying (given_up mode) octets (bits_of 8 bytes)) ≡ map f octets)
      → map f (put_call mode octets bytes).left ≡ map f octets
  unfolding put_call data_call
  after f h = by_test (eqb (data_number mode (length octets) (length bytes)) 0) (λ t. rw t (h (eqb-true _ _ t))) (λ t. rw t)

  -- Putting data in changes no bit above those that the mode gives up.
  pub upper_kept : map (λ (o : ℕ). o / 2 ^ given_up mode) (put_call mode octets bytes).left ≡ map (λ (o : ℕ). o / 2 ^ given_up mode) octets
  upper_kept = after _ (λ e. kept (given_up mode) octets (bits_of 8 bytes) (below_bits_of 8 bytes))

  -- Putting data in keeps every octet's upper six bits, in every mode, and if it is refused.
  pub upper_six_kept : map (λ (o : ℕ). o / 4) (put_call mode octets bytes).left ≡ map (λ (o : ℕ). o / 4) octets
  upper_six_kept = after _ (λ e. kept_six (given_up mode) octets (bits_of 8 bytes) (passed mode _ _ e).most (below_bits_of 8 bytes))
