-- The turns of the two loops over lent memory, and what their sums need.
-- Assumes nothing.
use mathlib.Core.Path.{◌≡◌, sym, ap, ◌∙◌}
use mathlib.Core.List.{List, ◌++◌}
use Prim.Native.Nat.{ℕ, suc, ◌+◌, ◌*◌, ◌/◌, ◌-◌, ◌^◌, ◌≤◌, ◌<◌}
use native.Mathlib.Nat.{div-add-mod'}
use native.Mathlib.Omega.{arith}
use lib.ListN.{length, take, drop, get_or, set, drop_of_length-le}
use lib.Seq.{drop-drop, drop-set-lt}
use borrow.Author.Tests.{ne_eqb}
use Rattle.laws.specs.Outcome.{Does}
use Rattle.laws.specs.Turns.{drop_one, put_one, put_all}
use Rattle.g722.specs.Answers.{Moved}
use Rattle.g722.proofs.Tells.{refused_number}
use Rattle.cue.specs.Fills.{passed}
use Rattle.g722.specs.Cue.{spelt, gathered, carrying, data_call}

-- one octet carries its bits
pub fill_turn : (k i w : ℕ) (o from : List ℕ) → i < length o → w ≡ get_or o i 0 / 2 ^ k * 2 ^ k + spelt 0 (take k (drop (k * i) from))
    → take (i + 1) (set o i w) ++ carrying k (drop (i + 1) (set o i w)) (drop (k * (i + 1)) from)
    ≡ take i o ++ carrying k (drop i o) (drop (k * i) from)
unfolding carrying
fill_turn k i w o from h e =
    let f : k * (i + 1) ≡ k * i + k = omega arith in
    let l : i < i + 1 = omega arith in
    rw (put_one o _ i w h, drop-set-lt (i + 1) o i w l, f, ← drop-drop k (k * i) from, drop_one o i 0 h, ← e)

pub fill_end : (k i n : ℕ) (o from : List ℕ) → length o ≤ i → take i o ++ carrying k (drop i o) (drop n from) ≡ o
unfolding carrying
fill_end k i n o from h = put_all o _ i h (rw (drop_of_length-le o h))

-- what `fill` is proved by
pub ruleset filling = (fill_turn, fill_end, div-add-mod')

-- one byte is spelt
pub gather_turn : (i n w : ℕ) (b from : List ℕ) → i < length b → i < n → w ≡ spelt 0 (take 8 (drop (8 * i) from))
    → take (i + 1) (set b i w) ++ gathered (n - (i + 1)) (drop (8 * (i + 1)) from) ≡ take i b ++ gathered (n - i) (drop (8 * i) from)
unfolding gathered
gather_turn i n w b from h l e =
    let f : 8 * (i + 1) ≡ 8 * i + 8 = omega arith in
    let g : n - i ≡ suc (n - (i + 1)) = omega arith in
    rw (put_one b _ i w h, f, ← drop-drop 8 (8 * i) from, g, ← e)

pub gather_end : (i n m : ℕ) (b from : List ℕ) → length b ≤ i → n ≤ i → take i b ++ gathered (n - i) (drop m from) ≡ b
unfolding gathered
gather_end i n m b from h l = let z : n - i ≡ 0 = omega arith in put_all b _ i h (rw z)

-- what `gather` is proved by
pub ruleset gathering = (gather_turn, gather_end)

-- a data call's outcome: with number 0 the new content, else the old
module _ {m : Moved} {number : ℕ} (e : m ≡ record { number = number; index = 0 }) (old new : List ℕ) where
  pub done : {now : List ℕ} → m.number ≡ 0 → now ≡ new → Does (data_call number old new) m now
  unfolding data_call
  done z f = record { answer = e; left = rw (sym (ap (λ (a : Moved). a.number) e) ∙ z) f }

  pub refused : (m.number ≡ 0 → ⊥) → Does (data_call number old new) m old
  unfolding data_call
  refused h = record { answer = e; left = rw (← ap (λ (a : Moved). a.number) e, ne_eqb m.number 0 h) }

-- what `put` and `take` are proved by
pub ruleset calls = (done, refused, refused_number, passed)
