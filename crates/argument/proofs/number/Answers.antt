-- `argument::number` meets its contract: where a digit more gives none below 2^32, the whole word gives none.
use Rattle.std.proofs.Common.{◌≡◌, ◌∙◌, sym, arith, ℕ, ◌+◌, ◌≤◌, ◌<◌, List, [], ◌∷◌, length, get_or, drop, Some, None}
use Rattle.std.proofs.lemmas.Bool.Decides.{nat_tests}
use Rattle.std.proofs.lemmas.List.{at_drop_more, at_drop_all}
use Rattle.argument.specs.Number.{none, with, on, number_of, below}
use Rattle.argument.proofs.number.Goals as goal

-- what is no number stays none, whatever follows
stays : (n byte : ℕ) → none ≤ n → none ≤ with n byte
unfolding with
stays n byte h = grind (arith, nat_tests)

stay : (n : ℕ) (s : List ℕ) → none ≤ n → none ≤ on n s
unfolding on
stay n [] h = h
stay n (byte ∷ s) h = stay (with n byte) s (stays n byte h)

-- what `below` says of a number
is_none : (n : ℕ) → None ≡ below n → none ≤ n
unfolding below
is_none n e = grind (arith, nat_tests)

is_some : (m n : ℕ) → Some m ≡ below n → (m ≡ n) × (m < none)
unfolding below
is_some m n e = grind (arith, nat_tests)

no_number : (n : ℕ) → none ≤ n → None ≡ below n
unfolding below
no_number n h = grind (arith, nat_tests)

-- one digit more
more : (s : List ℕ) (n i : ℕ) → i < length s → on n (drop i s) ≡ on (with n (get_or s i 0)) (drop (i + 1) s)
unfolding on
more s n i h = at_drop_more (on n) s i 0 h

pub returns-then-is_empty : goal.returns-then-is_empty
unfolding number_of below
returns-then-is_empty c = grind (arith, nat_tests)

pub loop-byte-init : goal.loop-byte-init
unfolding number_of
loop-byte-init c = record { below = omega arith; whole = grind (arith, nat_tests) }

pub returns-in_err-all : goal.returns-in_err-all
returns-in_err-all c =
    let s = c.args.word.now in
    let l = c.loop-byte in
    let stopped = is_none (with l.all (get_or s l.byte-index 0)) c.in_err-all.ensures in
    let e = more s l.all l.byte-index (omega arith) in
    c.from_residual.ensures ∙ no_number _ (rw (← l.invariant.whole, e) (stay _ (drop (l.byte-index + 1) s) stopped))

pub loop-byte-preserved : goal.loop-byte-preserved
loop-byte-preserved c =
    let s = c.args.word.now in
    let l = c.loop-byte in
    let next = is_some c.in_ok-all.all (with l.all (get_or s l.byte-index 0)) c.in_ok-all.ensures in
    let e = more s l.all l.byte-index (omega arith) in
    record { below = next.1; whole = rw next.0 (sym e ∙ l.invariant.whole) }

pub returns : goal.returns
unfolding on below
returns c =
    let l = c.loop-byte in
    let e = at_drop_all (on l.all) c.args.word.now l.byte-index (omega arith) in
    let h : l.all < none = l.invariant.below in
    let w = l.invariant.whole in
    grind (arith, nat_tests)
