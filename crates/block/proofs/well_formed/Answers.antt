-- The definition makes the same tests.
use Rattle.std.proofs.Common.{◌≡◌, refl, sym, ap, ◌∙◌, arith, rules, tests, true, ◌&&◌, List, [], ◌∷◌, ℕ, ◌+◌, ◌-◌, ◌≤◌, eqb, get_or}
use Rattle.std.proofs.Common.{take, drop}
use Rattle.std.proofs.Math.Bool.{and-eq-true_iff}
use Rattle.std.specs.List.{list_all}
use Rattle.std.proofs.lemmas.Iterator.{YieldsList-from_slice}
use Rattle.std.proofs.lemmas.Iterator.Search.{all_from_yields_List}
use mathlib.Core.Bool.{Bool, and_assoc}
use Rattle.big_endian.specs.Numbers.{two_at}
use Rattle.block.specs.Calls.{allowed, all_zero, well_formed}
use Rattle.block.proofs.Formed.{allowed_bounds}
use Rattle.block.proofs.well_formed.Goals as goal
use Rattle.block.proofs.well_formed.Goals.{Joined-allowed, then-allowed, else-allowed}

-- what the first two tests give
value : (c : Joined-allowed)
    → c.if-allowed.value ≡ (allowed (get_or c.args.b.now 8 0) c.from-count.result && eqb (get_or c.args.b.now 9 0) 0)
value c = elim c.if-allowed.branch [
  | then-allowed w ↦ rw (sym w.if-allowed.ensures) w.value-is
  | else-allowed w ↦ rw (sym w.if-allowed.ensures) (w.value-is ∙ w.if-allowed.false)
]

-- the octets end before the check
within : (c : Joined-allowed) → c.if-allowed.value ≡ true → 12 + c.from-count.result ≤ 510
within c e =
    let b = c.args.b.now in
    let mode = get_or b 8 0 in
    let n = c.from-count.result in
    let h = (and-eq-true_iff (allowed mode n) (eqb (get_or b 9 0) 0)).0 (sym (value c) ∙ e) in
    omega (arith, (allowed_bounds mode n h.0).count_most)

-- and then the zeros decide
decided : (b : List ℕ) (n : ℕ) (v : Bool) → n ≡ two_at b 10 → v ≡ (allowed (get_or b 8 0) n && eqb (get_or b 9 0) 0)
    → well_formed b ≡ (v && all_zero (take (510 - (12 + n)) (drop (12 + n) b)))
unfolding well_formed
decided b n v h e = rw (h, e, h, and_assoc)

zeros : (s : List ℕ) → list_all (λ byte. eqb byte 0) s ≡ all_zero s
unfolding all_zero
zeros [] = refl
zeros (byte ∷ rest) = ap (λ (z : Bool). eqb byte 0 && z) (zeros rest)

pub slice_bounds-iter-count : goal.slice_bounds-iter-count
slice_bounds-iter-count c = within (goal.at.slice_bounds-iter-count c).Joined-allowed c.if-b-eq0.true

pub slice_bounds-iter-start : goal.slice_bounds-iter-start
slice_bounds-iter-start c = let h = within (goal.at.slice_bounds-iter-start c).Joined-allowed c.if-b-eq0.true in search rules

pub returns-then-b-eq0 : goal.returns-then-b-eq0
returns-then-b-eq0 c =
    let b = c.args.b.now in
    let n = c.from-count.result in
    let rest = c.iter.result.rest.now in
    let v = value (goal.at.returns-then-b-eq0 c).Joined-allowed in
    let d = decided b n c.if-allowed.value (c.from-count.ensures ∙ c.two_at.ensures) v in
    let all = all_from_yields_List (λ byte. eqb byte 0) _ _ c.all.result c.all.ensures.ran
    (YieldsList-from_slice rest refl) (λ x t q k. search (rules, tests)) in
    let same : rest ≡ take (510 - (12 + n)) (drop (12 + n) b) = cc in
    all ∙ zeros rest ∙ ap all_zero same ∙ sym (rw c.if-b-eq0.true at d)

pub returns-else-b-eq0 : goal.returns-else-b-eq0
returns-else-b-eq0 c =
    let v = value (goal.at.returns-else-b-eq0 c).Joined-allowed in
    let d = decided c.args.b.now c.from-count.result c.if-allowed.value (c.from-count.ensures ∙ c.two_at.ensures) v in
    c.if-b-eq0.false ∙ sym (rw c.if-b-eq0.false at d)
