-- One band over a block, low or high: at the coder its words, at the decoder its heard signals in full, and the band after them.
-- Assumes nothing.
use Rattle.std.specs.Prelude.{◌≡◌, Bool, true, cond, ◌&&◌, List, ℕ, ◌*◌, ◌≤◌, ltb, ℤ, length}
use Rattle.std.proofs.Math.Bool.{not}
use borrow.Author.Tests.{ltb-false, le-ltb, eqb-true, eq-eqb, not-true}
use Rattle.std.proofs.Math.Dec.{eqb}
use Rattle.laws.specs.Both.{left_true, right_true}
use Rattle.laws.specs.Outcome.{Outcome}
use Rattle.laws.specs.Machine.{outs, last}
use Rattle.g722.specs.Band.{low_after, high_after}
use Rattle.g722.specs.Records.{good_poles}
use Rattle.g722.specs.Coding.{low_word_of, high_word_of}
use Rattle.g722.specs.Decoding.{yl_of, yh_of}
use Rattle.g722.specs.Steps.{low_next, high_next}
use Rattle.g722.specs.declared.Poles.{Poles}
use Rattle.g722.specs.declared.Band.{Band}

-- the word of a signal, in six bits: the high band's two stand above four that are not its own
unfoldable pub word_of : Bool → Band → ℤ → ℕ
word_of high s x = cond high (high_word_of s x * 4) (low_word_of s x)

unfoldable pub coded_next : Bool → Band → ℤ → Band
coded_next high s x = cond high (high_after s (high_word_of s x)) (low_after s (low_word_of s x))

-- the signal of an octet
unfoldable pub signal_of : Bool → ℕ → Band → ℕ → ℤ
signal_of high mode s o = cond high (yh_of s o) (yl_of mode s o)

unfoldable pub heard_next : Bool → Band → ℕ → Band
heard_next high s o = cond high (high_next s o) (low_next s o)

-- a block is at most 160 long, has a place for each item, and starts from coefficients within their bounds
unfoldable pub takes : Poles → ℕ → ℕ → Bool
takes p items places = not (ltb 160 places) && eqb items places && good_poles p

-- what a loop that gives and goes on so makes of a block
abbrev pub run_of : {A B : Type 0} → (Band → A → B) → (Band → A → Band) → Band → List A → Outcome Band (List B)
run_of out next s xs = record { answer = last next s xs; left = outs out next s xs }

-- what it makes of one
abbrev pub coded_run : Bool → Band → List ℤ → Outcome Band (List ℕ)
coded_run high s x = record { answer = last (coded_next high) s x; left = outs (word_of high) (coded_next high) s x }

abbrev pub heard_run : Bool → ℕ → Band → List ℕ → Outcome Band (List ℤ)
heard_run high mode s octets =
    record { answer = last (heard_next high) s octets; left = outs (signal_of high mode) (heard_next high) s octets }

-- what is no such block is given back as it came
unfoldable pub coded_block : Bool → Band → List ℤ → List ℕ → Outcome Band (List ℕ)
coded_block high s x words =
    cond (takes s.poles (length x) (length words))
    (coded_run high s x)
    (record { answer = s; left = words })

unfoldable pub heard_block : Bool → ℕ → Band → List ℕ → List ℤ → Outcome Band (List ℤ)
heard_block high mode s octets signals =
    cond (takes s.poles (length octets) (length signals))
    (heard_run high mode s octets)
    (record { answer = s; left = signals })

-- ---- a block that is taken

module _ (p : Poles) (items places : ℕ) where
  pub block_is : takes p items places ≡ true → (places ≤ 160) × (items ≡ places) × (good_poles p ≡ true)
  unfolding takes
  block_is e =
      let few = not (ltb 160 places) in
      let same = eqb items places in
      let both = left_true (few && same) (good_poles p) e in (
        ltb-false 160 places (not-true (ltb 160 places) (left_true few same both)),
        eqb-true items places (right_true few same both),
        right_true (few && same) (good_poles p) e,
      )

  pub is_block : places ≤ 160 → items ≡ places → good_poles p ≡ true → takes p items places ≡ true
  unfolding takes
  is_block h k g = rw (le-ltb 160 places h, eq-eqb items places k, g)

module _ (high : Bool) (s : Band) where
  pub coded_block_lem : (x : List ℤ) (words : List ℕ) → takes s.poles (length x) (length words) ≡ true
      → coded_block high s x words ≡ coded_run high s x
  unfolding coded_block
  coded_block_lem x words e = rw e

  pub heard_block_lem : (mode : ℕ) (octets : List ℕ) (signals : List ℤ) → takes s.poles (length octets) (length signals) ≡ true
      → heard_block high mode s octets signals ≡ heard_run high mode s octets
  unfolding heard_block
  heard_block_lem mode octets signals e = rw e
