-- The receive filter over rows, on plain values: at every place it gives what the definitions give of the twelve pairs there.
-- Assumes nothing.
use mathlib.Core.Path.{◌≡◌, refl, ap, ◌∙◌}
use mathlib.Core.List.{List, [], ◌∷◌, ◌++◌, map}
use Prim.Native.Nat.{ℕ, zero, suc, ◌+◌, ◌*◌, ◌-◌, ◌≤◌, ◌<◌}
use native.Mathlib.Omega.{arith}
use lib.IntN.{ℤ, ◌*ℤ◌}
use lib.ListN.{length, drop}
use Rattle.laws.specs.Outcome.{Does}
use Rattle.g722.specs.Arithmetic.{shr, add, sub, limit, overloads}
use Rattle.g722.specs.Mirror.{coefficient}
use Rattle.g722.specs.Steps.{pairs_next, pairs_after}
use Rattle.g722.specs.declared.Pairs.{Pairs}
use Rattle.mirror.specs.Rows.{nth, Holds, in_turn, taps_at, sum_same, first_at, second_at, rows_joined}
use Rattle.mirror.specs.Block.{stopped_xd, stopped_xs, joined_stopped, join_run}
use Rattle.mirror.proofs.Windows.{Left, none_left, place, left_next}

taps_same : (phase : ℕ) (f g : ℕ → ℤ) (i : ℕ) → ((k : ℕ) → k < 12 → f (i + k) ≡ g k) → taps_at phase f i ≡ taps_at phase g 0
unfolding taps_at
taps_same phase f g i e =
    sum_same _ _ 12 (λ j l.
    let n : i + 11 - j ≡ i + (0 + 11 - j) = omega arith in
    λ t. coefficient (2 * j + phase) *ℤ (ap f n ∙ e (0 + 11 - j) (omega arith)) t)

-- two rows that hold the differences and the sums of the first m numbers of two bands
module _ (wl wh : List ℤ) {xd xs : List ℤ} {m : ℕ} (d : Holds (stopped_xd wl wh) xd m) (s : Holds (stopped_xs wl wh) xs m) where
  -- n pairs from place i on: they come behind p
  pub record JoinedAs (n i : ℕ) (p : Pairs) (low high : List ℤ) : Type 0 where
    pub full : in_turn (first_at xd) (second_at xs) i n ≡ joined_stopped p low high
    pub samples : in_turn (λ (k : ℕ). limit (first_at xd k)) (λ (k : ℕ). limit (second_at xs k)) i n ≡ map limit (joined_stopped p low high)
    pub rl : drop (i + n) wl ≡ (pairs_after p low high).rl
    pub rh : drop (i + n) wh ≡ (pairs_after p low high).rh

  pub joined_as : (n i : ℕ) (p : Pairs) (low high : List ℤ) → length low ≡ n → length high ≡ n
      → Left 11 wl i p.rl low → Left 11 wh i p.rh high → i + n + 11 ≤ m → JoinedAs n i p low high
  unfolding in_turn joined_stopped pairs_after pairs_next first_at second_at
  joined_as zero i p [] [] k k' f g h =
      let z : i + 0 ≡ i = omega arith in
      record { full = refl; samples = refl; rl = none_left f (i + 0) z; rh = none_left g (i + 0) z }
  joined_as zero i p [] (y ∷ high) k k' f g h = absurd (omega arith)
  joined_as zero i p (x ∷ low) high k k' f g h = absurd (omega arith)
  joined_as (suc n) i p [] high k k' f g h = absurd (omega arith)
  joined_as (suc n) i p (x ∷ low) [] k k' f g h = absurd (omega arith)
  joined_as (suc n) i p (x ∷ low) (y ∷ high) k k' f g h =
      let u = place (x ∷ []) low f in
      let v = place (y ∷ []) high g in
      let a = taps_same 0 (nth xd) _ i (λ j o. d.is (i + j) (omega arith) ∙ λ t. sub (u j o t) (v j o t)) in
      let b = taps_same 1 (nth xs) _ i (λ j o. s.is (i + j) (omega arith) ∙ λ t. add (u j o t) (v j o t)) in
      let f' = left_next (x ∷ []) low f (suc i) (omega arith) in
      let g' = left_next (y ∷ []) high g (suc i) (omega arith) in
      let r = joined_as n (suc i) (pairs_next p x y) low high (omega arith) (omega arith) f' g' (omega arith) in
      let z : i + suc n ≡ suc i + n = omega arith in
      record {
        full = λ t. shr (a t) 12 ∷ shr (b t) 12 ∷ r.full t;
        samples = λ t. limit (shr (a t) 12) ∷ limit (shr (b t) 12) ∷ r.samples t;
        rl = ap (λ (j : ℕ). drop j wl) z ∙ r.rl;
        rh = ap (λ (j : ℕ). drop j wh) z ∙ r.rh;
      }

-- so what the rows of a block give is what the definitions give of it
pub join_whole : (p : Pairs) (low high : List ℤ) {xd xs samples : List ℤ} {next : Pairs} {count : ℕ}
    → length p.rl ≡ 11 → length p.rh ≡ 11 → length high ≡ length low
    → Holds (stopped_xd (p.rl ++ low) (p.rh ++ high)) xd (11 + length low) → Holds (stopped_xs (p.rl ++ low) (p.rh ++ high)) xs (11 + length low)
    → Does (rows_joined xd xs (length low)) count samples
    → next.rl ≡ drop (length low) (p.rl ++ low) → next.rh ≡ drop (length high) (p.rh ++ high)
    → Does (join_run p low high) (record { limited = count; past = next }) samples
join_whole p low high l l' k d s r q q' =
    let n = length low in
    let z : n ≡ 0 + n = omega arith in
    let f : Left 11 (p.rl ++ low) 0 p.rl low = record { long = l; is = refl } in
    let g : Left 11 (p.rh ++ high) 0 p.rh high = record { long = l'; is = refl } in
    let t = joined_as _ _ d s n 0 p low high refl k f g (omega arith) in
    let rl = q ∙ ap (λ (j : ℕ). drop j (p.rl ++ low)) z ∙ t.rl in
    let rh = q' ∙ ap (λ (j : ℕ). drop j (p.rh ++ high)) (k ∙ z) ∙ t.rh in
    let count = r.answer ∙ ap overloads t.full in
    record {
      answer = λ j. record { limited = count j; past = record { rl = rl j; rh = rh j } };
      left = r.left ∙ t.samples;
    }
