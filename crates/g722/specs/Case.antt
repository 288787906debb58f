-- How worked cases are put: what is got beside what is wanted.
-- One test computes which cases of a table fail; one law makes of it an equation for each.
-- Assumes nothing.
use Rattle.std.specs.Prelude.{◌≡◌, refl, Bool, true, false, cond, ℕ, ◌*◌, ◌/◌, eqb, ℤ, pos, negsuc, length, replicate}
use Rattle.std.proofs.Common.{sym, ap, ap₂, eqb-true}
use mathlib.Core.List.{List, [], ◌∷◌, ◌++◌, map, cons≢nil}
use Rattle.laws.specs.Order.{by_test, no}
use Rattle.laws.specs.Outcome.{Outcome}
use Rattle.g722.specs.Records.{reset_coder, reset_decoder}
use Rattle.g722.specs.Coding.{code_call}
use Rattle.g722.specs.Decoding.{decode_call}
use Rattle.g722.specs.Steps.{hear_call, join_call}
use Rattle.g722.specs.declared.Coder.{Coder}
use Rattle.g722.specs.declared.Decoder.{Decoder}
use Rattle.g722.specs.Answers.{Moved}

pub record Case : Type 0 where
  pub got : List ℤ
  pub want : List ℤ

infix 4 ◌gives◌
abbrev pub ◌gives◌ : List ℤ → List ℤ → Case
◌gives◌ g w = record { got = g; want = w }

abbrev pub Hold : List Case → Type 0
Hold [] = Unit {0}
Hold (k ∷ rest) = (k.got ≡ k.want) × Hold rest

-- ---- the test

abbrev same : ℤ → ℤ → Bool
same (pos m) (pos n) = eqb m n
same (pos m) (negsuc n) = false
same (negsuc m) (pos n) = false
same (negsuc m) (negsuc n) = eqb m n

abbrev agree : List ℤ → List ℤ → Bool
agree [] [] = true
agree [] (w ∷ ws) = false
agree (g ∷ gs) [] = false
agree (g ∷ gs) (w ∷ ws) = cond (same g w) (agree gs ws) false

-- the cases that fail: a wrong definition is refused with this list
abbrev pub failing : List Case → List Case
failing [] = []
failing (k ∷ rest) = cond (agree k.got k.want) [] (k ∷ []) ++ failing rest

-- ---- the law

same_is : (a b : ℤ) → same a b ≡ true → a ≡ b
same_is (pos m) (pos n) e = ap pos (eqb-true m n e)
same_is (pos m) (negsuc n) e = no (sym e)
same_is (negsuc m) (pos n) e = no (sym e)
same_is (negsuc m) (negsuc n) e = ap negsuc (eqb-true m n e)

agree_is : (gs ws : List ℤ) → agree gs ws ≡ true → gs ≡ ws
agree_is [] [] e = refl
agree_is [] (w ∷ ws) e = no (sym e)
agree_is (g ∷ gs) [] e = no (sym e)
agree_is (g ∷ gs) (w ∷ ws) e =
    by_test (same g w) (λ t. ap₂ ◌∷◌ (same_is g w t) (agree_is gs ws (rw t at e))) (λ t. no (sym (rw t at e)))

pub all_hold : (ks : List Case) → failing ks ≡ [] → Hold ks
all_hold [] e = tt
all_hold (k ∷ rest) e =
    by_test (agree k.got k.want)
    (λ t. (agree_is k.got k.want t, all_hold rest (rw t at e)))
    (λ t. absurd (cons≢nil (rw t at e)))

-- ---- how a call is put

-- numbers as ℤ, and tests as 1 and 0
abbrev pub these : List ℕ → List ℤ
these ns = map pos ns

abbrev pub truths : List Bool → List ℤ
truths ts = map (λ (t : Bool). cond t (pos 1) (pos 0)) ts

-- what coding from reset sends, and what decoding from reset in a told mode gives to hear
abbrev pub sent : List ℤ → List ℤ
sent samples = these (code_call reset_coder samples (replicate (length samples / 2) 0)).left

abbrev pub heard : ℕ → List ℕ → List ℤ
heard told octets = (decode_call reset_decoder told octets (replicate (2 * length octets) (pos 0))).left

-- a call's number, its index and its count, and then what it leaves
abbrev pub codes : Coder → List ℤ → List ℕ → List ℤ
codes c samples octets =
    let done = code_call c samples octets in
    these (done.answer.number ∷ done.answer.index ∷ done.answer.limited ∷ done.left)

abbrev pub decodes : Decoder → ℕ → List ℕ → List ℤ → List ℤ
decodes d told octets samples =
    let done = decode_call d told octets samples in
    these (done.answer.number ∷ done.answer.index ∷ done.answer.limited ∷ []) ++ done.left

-- the low signals before the high ones
abbrev pub hears : Decoder → ℕ → List ℕ → List ℤ → List ℤ → List ℤ
hears d told octets low high =
    let done = hear_call d told octets low high in
    these (done.answer.number ∷ done.answer.index ∷ done.answer.limited ∷ []) ++ done.left.0 ++ done.left.1

abbrev pub joins : Decoder → List ℤ → List ℤ → List ℤ → List ℤ
joins d low high samples =
    let done = join_call d low high samples in
    these (done.answer.number ∷ done.answer.index ∷ done.answer.limited ∷ []) ++ done.left

abbrev pub moves : Outcome Moved (List ℕ) → List ℤ
moves done = pos done.answer.number ∷ pos done.answer.index ∷ these done.left
