-- The sum of all is the one that is defined, and that of the first of them is small enough on the way.
use Rattle.std.proofs.Common.{rules, ◌≡◌, refl, ap, ◌∙◌, arith, ℕ, suc, ◌*◌, ◌<◌, ◌≤◌, List, [], ◌∷◌, map, fold, length, get_or, ℤ, pos, SFits, to_z, of_z, to_z-of_z}
use lib.IntN.{nat_abs, ◌+ℤ◌}
use mir.Syntax.{w16}
use Rattle.std.proofs.iter.runs.Made.{chains}
use Rattle.std.proofs.lemmas.Iterator.{YieldsList-from_slice, YieldsList-from_map}
use Rattle.std.proofs.lemmas.Iterator.Consumers.{YieldsList-at}
use Rattle.std.proofs.lemmas.Iterator.Adapters.{total_from_yields_List}
use Rattle.laws.specs.Back.{back32}
use Rattle.laws.specs.Order.{zarith, add_read}
use Rattle.laws.specs.Size.{fits_abs, abs_add, abs16}
use Rattle.conference.specs.Sums.{sum_of}
use Rattle.mixer.proofs.sums.total.Goals as goal

-- signals of 16 bits, as the code reads them
abbrev Signals : List ℤ → Type 0
Signals xs = (k : ℕ) → k < length xs → SFits w16 (get_or xs k (pos 0))

summed : (a : ℤ) (xs : List ℤ) → fold ◌+ℤ◌ a xs ≡ a +ℤ sum_of xs
unfolding sum_of
summed a [] = omega (zarith, add_read a (pos 0))
summed a (x ∷ xs) =
    summed (a +ℤ x) xs
    ∙ omega (zarith, add_read (a +ℤ x) (sum_of xs), add_read a x, add_read a (x +ℤ sum_of xs), add_read x (sum_of xs))

read : (xs : List ℤ) → Signals xs → map (λ (x : ℤ). to_z w16 (of_z w16 x)) xs ≡ xs
read [] f = refl
read (x ∷ xs) f = λ i. to_z-of_z (f 0 (omega arith)) i ∷ read xs (λ k h. f (suc k) (omega arith)) i

small : (xs : List ℤ) → Signals xs → nat_abs (sum_of xs) ≤ 32768 * length xs
unfolding sum_of
small [] f = omega arith
small (x ∷ xs) f = omega (arith, abs_add x (sum_of xs), abs16 (f 0 (omega arith)), small xs (λ k h. f (suc k) (omega arith)))

all : (xs : List ℤ) → fold ◌+ℤ◌ (pos 0) xs ≡ sum_of xs
all xs = summed (pos 0) xs ∙ omega (zarith, add_read (pos 0) (sum_of xs))

pub sum-requires-clause-fits : goal.sum-requires-clause-fits
sum-requires-clause-fits c = λ p t at.
    let few : p.len ≤ length c.args.signals.now = search (rules, chains) in
    let each : Signals p.items = λ k h. search (rules, chains) in
    rw all (fits_abs (omega (arith, p.long, small p.items each)))

pub returns : goal.returns
returns c =
    let signals = c.args.signals.now in
    let each : Signals signals = λ k h. search rules in
    let total : c.sum.result ≡ fold ◌+ℤ◌ (pos 0) (map (λ (x : ℤ). to_z w16 (of_z w16 x)) signals) =
    total_from_yields_List ◌+ℤ◌ (pos 0) c.sum.result c.sum.ensures.ran
    (YieldsList-from_map _ (λ (x : ℤ). to_z w16 (of_z w16 x)) (YieldsList-at c.map.ensures.source (YieldsList-from_slice signals cc)) c.map.ensures.closure
    (λ x r q k. search rules)) in
    let is = back32 c.sum.result c.sum.type_inv ∙ total ∙ ap (fold ◌+ℤ◌ (pos 0)) (read signals each) ∙ all signals in
    (is, rw is (omega (arith, small signals each)))
