-- Bit after bit, what they spell.
use Rattle.std.proofs.Common.{◌≡◌, refl, ◌∙◌, sym, ap, rules, tests, arith, List, [], ◌∷◌, ℕ, zero, suc, ◌+◌, ◌-◌, ◌*◌, ◌^◌, ◌<◌, ◌≤◌}
use Rattle.std.proofs.Common.{length, get_or, lit<, take, drop, fold, add-one, pow-suc, length-drop, length-take-le}
use mathlib.Core.Path.{subst}
use Rattle.std.specs.List.{range_with_len}
use Rattle.std.specs.Iterator.{Yields, CallableAtEachTurn}
use Rattle.std.specs.declared.ops.Range.{Range}
use Rattle.std.proofs.iter.Yields.{nat_range_steps}
use Rattle.std.proofs.Math.Nat.{pow-le-pow_right}
use Rattle.std.proofs.lemmas.List.{length_push}
use Rattle.std.proofs.lemmas.Fn.{serves_by}
use Rattle.std.proofs.lemmas.Iterator.{YieldsList-from_range}
use Rattle.std.proofs.lemmas.Iterator.Consumers.{fold_from_yields_List}
use Rattle.g722.specs.Cue.{bits_of, spelt}
use Rattle.cue.specs.Bits.{below_take, below_drop, below_bits_of, length-bits_of, spelt_turn, spelt_less}
use Rattle.cue.proofs.spell.Goals as goal

-- where a range stands after some of its items
place : (xs : List ℕ) (s t : Range ℕ) → Yields nat_range_steps s xs t → (t.start ≡ s.start + length xs) × (t.end ≡ s.end)
place [] s t y = (omega (arith, ap (λ (k : Range ℕ). k.start) y), sym (ap (λ (k : Range ℕ). k.end) y))
place (x ∷ xs) s t y = let h = place xs y.0 t y.2 in (omega (arith, h.0, y.1.1.2), h.1 ∙ y.1.0)

-- bit after bit, from bit n on
folded : (b : List ℕ) (v n w : ℕ) → n + w ≤ length b
    → fold (λ v at. v * 2 + get_or b at 0) v (range_with_len n w) ≡ spelt v (take w (drop n b))
unfolding spelt
folded b v n zero h = refl
folded b v n (suc w) h =
    let e : suc w - 1 ≡ w = omega arith in
    folded b (v * 2 + get_or b n 0) (n + 1) w (omega arith) ∙ (rw e at (spelt_turn v n (suc w) b (omega arith) (omega arith)))

-- after so many bits the closure is what it was, and the number one of so many bits: so there is room for the next
roomy : {F : Type 0} (R : F × ℕ → ℕ → F × ℕ → Type 0) (Q : F × ℕ → ℕ → Type 0) (s : Range ℕ) (f : F) → s.end ≤ s.start + 8
    → ((q v : F × ℕ) (x : ℕ) → R q x v → (v.0 ≡ q.0) × (v.1 < (q.1 + 1) * 2))
    → ((n x : ℕ) → n < 128 → s.start ≤ x → x < s.end → Q (f, n) x) → CallableAtEachTurn nat_range_steps R Q s (f, 0)
roomy R Q s f short turn asks =
    serves_by R (λ (xs : List ℕ) p. (p.0 ≡ f) × (p.1 < 2 ^ length xs))
    (λ xs q x v j r.
    let less = turn q v x r in
    (less.0 ∙ j.0, rw (length_push, add-one, pow-suc 2 (length xs)) (omega (arith, j.1, less.1))))
    nat_range_steps Q s (f, 0) (refl, lit< tt)
    (λ xs t q x u y e j.
    let p = place xs s t y in
    let l : length xs ≤ 7 = omega (arith, p.0, p.1, e.1.0, short) in
    let m : 2 ^ length xs ≤ 2 ^ 7 = pow-le-pow_right (omega arith) l in
    let small : q.1 < 128 = omega (arith, j.1) in
    subst (λ (g : _). Q (g, q.1) x) (sym j.0) (asks q.1 x small (omega (arith, p.0, e.1.1)) (omega (arith, p.1, e.1.0, e.1.1))))

pub fold-requires-clause-callable : goal.fold-requires-clause-callable
fold-requires-clause-callable c =
    let a = c.args in
    roomy _ _ _ _ (omega arith) (λ q v x r. (search (rules, tests), search (rules, tests)))
    (λ m x small low high.
    let within : x < a.k * length a.xs.now = omega (arith, high) in
    search (rules, tests))

pub returns : goal.returns
returns c =
    let a = c.args in
    let b = bits_of a.k a.xs.now in
    let spelt_out = take a.w (drop a.n b) in
    let e = fold_from_yields_List _ (λ v at. v * 2 + get_or b at 0) 0 c.fold.result c.fold.ensures.ran
    (YieldsList-from_range a.n (a.n + a.w) a.w refl (omega arith)) (λ v at r q k. search (rules, tests)) in
    let room : a.n + a.w ≤ length b = rw (length-bits_of a.k a.xs.now) (omega arith) in
    let f : c.fold.result ≡ spelt 0 spelt_out = e ∙ folded b 0 a.n a.w room in
    let long : length spelt_out ≡ a.w = length-take-le a.w (drop a.n b) (rw length-drop (omega arith)) in
    (f, rw f (rw long at (spelt_less spelt_out (below_take 2 a.w _ (below_drop 2 a.n _ (below_bits_of a.k a.xs.now))))))
