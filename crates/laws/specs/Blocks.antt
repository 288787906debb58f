-- A run that is made block after block: what it did of its first a elements, and what it then does of those from a to e, is what it does
-- of its first e. What it writes stands in the same way at the front of a lent slice.
-- Assumes nothing.
use Rattle.std.specs.Prelude.{◌≡◌, refl, List, ◌++◌, ℕ, ◌+◌, ◌-◌, ◌≤◌, length, take, drop}
use Rattle.std.proofs.Common.{ap, ◌∙◌, arith, take-add}
use borrow.Rule.Slice.PartMut.{put_mid, mid_len, same_len_mid}
use Rattle.laws.specs.Outcome.{Outcome, Does, does}
use Rattle.laws.specs.Parts.{behind as put-behind}

-- ---- the lists

module _ {A : Type 0} {a e : ℕ} (h : a ≤ e) (xs : List A) where
  -- the first e are the first a, and behind them those from a to e
  pub front_more : take e xs ≡ take a xs ++ take (e - a) (drop a xs)
  front_more = let n : e ≡ a + (e - a) = omega arith in ap (λ (k : ℕ). take k xs) n ∙ take-add a (e - a) xs

  -- and so they are where those from a to e are written
  module _ (ys : List A) (same : length ys ≡ length (take (e - a) (drop a xs))) where
    pub part_long : length (put_mid a (e - a) xs ys) ≡ length xs
    part_long = same_len_mid a (e - a) xs ys same

    pub part_put : e ≤ length xs → take e (put_mid a (e - a) xs ys) ≡ take a xs ++ ys
    part_put room = put-behind a e xs ys (take a xs) h room (same ∙ mid_len a e xs room) refl

-- ---- the run

-- From a record and an input it answers with a count and the record after it, and leaves what it wrote.
module _ {S R X Y : Type 0} (run : S → X → Outcome R Y) (count : R → ℕ) (next : R → S) (answer : ℕ → S → R) (behind : Y → Y → Y) where
  -- a run and, from the record after it, another: the counts add up, and what the second wrote stands behind what the first did
  abbrev pub in_turn : S → X → X → Outcome R Y
  in_turn s x y =
      let p = run s x in
      let q = run (next p.answer) y in
      record { answer = answer (count p.answer + count q.answer) (next q.answer); left = behind p.left q.left }

  -- THE LAW: where a run over z is one over x and one over y in turn, whoever does x and then y has done z
  pub block_more : {s : S} {x y z : X} {r t : R} {l m : Y} → run s z ≡ in_turn s x y → Does (run s x) r l → Does (run (next r) y) t m
      → Does (run s z) (answer (count r + count t) (next t)) (behind l m)
  block_more {y = y} z≡ f g =
      let t = g.answer ∙ λ i. (run (next (f.answer i)) y).answer in
      let m = g.left ∙ λ i. (run (next (f.answer i)) y).left in
      does z≡ (λ i. answer (count (f.answer i) + count (t i)) (next (t i))) (λ i. behind (f.left i) (m i))
