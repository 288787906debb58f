-- The listing, turn by turn, as a program makes it that reads 512 bytes at a time.
-- Assumes nothing.
use Rattle.std.specs.Prelude.{◌≡◌, refl, List, [], ◌∷◌, ℕ, zero, suc, ◌+◌, ◌*◌, ◌≤◌, ◌<◌, length, get_or, take, drop, ltb}
use Rattle.std.proofs.Common.{sym, ◌∙◌, arith, length-drop, drop_of_length-le, drop-drop}
use Rattle.std.proofs.Math.Path.{ap}
use borrow.Author.Tests.{eq-eqb, ne_eqb, ltb-true, ltb-false}
use Rattle.laws.specs.Order.{by_test}
use Rattle.lines.specs.Lines.{block_line, refused_line}
use Rattle.listing.specs.Listed.{listed}
use Rattle.reader.proofs.Stays.{piece_at}
use Rattle.playing.specs.Run.{Playing, played, onward}
use Rattle.listing.specs.Listing.{cut, pieces, start, lines_from, listing}

-- ---- the pieces: none of nothing, else 512 bytes, or as many as there are, and then the pieces of the rest

none_left : (turns : ℕ) (bytes : List ℕ) → length bytes ≤ 0 → cut turns bytes ≡ []
unfolding cut
none_left zero bytes h = refl
none_left (suc turns) bytes h = rw (eq-eqb (length bytes) 0 (omega arith))

one_cut : (turns : ℕ) (bytes : List ℕ) → 0 < length bytes → cut (suc turns) bytes ≡ take 512 bytes ∷ cut turns (drop 512 bytes)
unfolding cut
one_cut turns bytes h = rw (ne_eqb (length bytes) 0 (λ e. omega arith))

enough : (a b : ℕ) (bytes : List ℕ) → length bytes ≤ a → length bytes ≤ b → cut a bytes ≡ cut b bytes
enough zero b bytes h k = none_left zero bytes h ∙ sym (none_left b bytes h)
enough (suc a) zero bytes h k = none_left (suc a) bytes k ∙ sym (none_left zero bytes k)
enough (suc a) (suc b) bytes h k =
    let l = length-drop 512 bytes in
    by_test (ltb 0 (length bytes))
    (λ e. let s = ltb-true 0 (length bytes) e in
    one_cut a bytes s
    ∙ ap (λ (more : List (List ℕ)). take 512 bytes ∷ more) (enough a b (drop 512 bytes) (omega arith) (omega arith))
    ∙ sym (one_cut b bytes s))
    (λ e. let n = ltb-false 0 (length bytes) e in none_left (suc a) bytes n ∙ sym (none_left (suc b) bytes n))

pub pieces_none : pieces [] ≡ []
unfolding pieces
pieces_none = none_left 0 [] (omega arith)

none_walked : (k : ℕ) (bytes : List ℕ) → length bytes ≤ 0 → get_or (pieces bytes) k [] ≡ piece_at bytes k
unfolding pieces
none_walked k bytes h =
    ap (λ (l : List (List ℕ)). get_or l k []) (none_left (length bytes) bytes h)
    ∙ ap (take 512) (sym (drop_of_length-le bytes {i = 512 * k} (omega arith)))

pub pieces_some : (bytes : List ℕ) → 0 < length bytes → pieces bytes ≡ take 512 bytes ∷ pieces (drop 512 bytes)
unfolding pieces
pieces_some bytes h =
    let n = length bytes in
    let l = length-drop 512 bytes in
    enough n (suc n) bytes (omega arith) (omega arith) ∙ one_cut n bytes h
    ∙ ap (λ (more : List (List ℕ)). take 512 bytes ∷ more) (enough n (length (drop 512 bytes)) (drop 512 bytes) (omega arith) (omega arith))

-- piece k is what a reader of the whole recording finds as block k
pub pieces_walked : (k : ℕ) (bytes : List ℕ) → get_or (pieces bytes) k [] ≡ piece_at bytes k
pieces_walked zero bytes =
    by_test (ltb 0 (length bytes))
    (λ e. ap (λ (l : List (List ℕ)). get_or l 0 []) (pieces_some bytes (ltb-true 0 (length bytes) e)))
    (λ e. none_walked 0 bytes (ltb-false 0 (length bytes) e))
pieces_walked (suc k) bytes =
    let on : 512 + 512 * k ≡ 512 * suc k = omega arith in
    by_test (ltb 0 (length bytes))
    (λ e. ap (λ (l : List (List ℕ)). get_or l (suc k) []) (pieces_some bytes (ltb-true 0 (length bytes) e))
    ∙ pieces_walked k (drop 512 bytes)
    ∙ ap (take 512) (drop-drop (512 * k) 512 bytes ∙ ap (λ (n : ℕ). drop n bytes) on))
    (λ e. none_walked (suc k) bytes (ltb-false 0 (length bytes) e))

-- ---- the lines of what is left of a recording

abbrev pub listing_from : Playing → ℕ → List ℕ → List (List ℕ)
listing_from p before bytes = lines_from p before (pieces bytes)

pub whole_listing : (bytes : List ℕ) → listing bytes ≡ listing_from start 0 bytes
unfolding listing
whole_listing bytes = refl

module _ (p : Playing) (before : ℕ) where
  -- no input, no lines
  pub no_lines : listing_from p before [] ≡ []
  unfolding lines_from
  no_lines = ap (lines_from p before) pieces_none

  module _ (bytes : List ℕ) (some : 0 < length bytes) where
    -- a block: its line, and then the listing of the rest, from what the player keeps
    pub good_line : let a = (played p (take 512 bytes)).answer in a.number ≡ 0
        → listing_from p before bytes
        ≡ block_line a.take a.block a.mode a.count a.first a.last a.limited
        ∷ listing_from (onward p (take 512 bytes)) (before + 1) (drop 512 bytes)
    unfolding lines_from listed
    good_line z = rw (pieces_some bytes some, eq-eqb (played p (take 512 bytes)).answer.number 0 z)

    -- a refusal: its line, with the count of the blocks before it, and nothing more
    pub refused_line_lem : let a = (played p (take 512 bytes)).answer in (a.number ≡ 0 → ⊥)
        → listing_from p before bytes ≡ refused_line a.number before ∷ []
    unfolding lines_from listed
    refused_line_lem n = rw (pieces_some bytes some, ne_eqb (played p (take 512 bytes)).answer.number 0 n)
