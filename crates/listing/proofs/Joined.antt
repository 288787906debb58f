-- Recordings joined at the first block of a take are listed as each by itself: but for the count in a refusal, no line after the cut says
-- anything of what came before.
-- Assumes nothing.
use Rattle.std.specs.Prelude.{◌≡◌, refl, true, cond, List, [], ◌∷◌, ◌++◌, ℕ, zero, suc, ◌+◌, ◌*◌, ◌<◌, eqb, pos, length, take, drop, replicate}
use Rattle.std.proofs.Common.{sym, ap, ◌∙◌, arith, length-append, length-drop, drop_of_length-le, take_all, eqb-true, ne_eqb}
use Rattle.std.proofs.lemmas.List.{length-replicate, take-append-le, drop-append-le}
use Rattle.std.proofs.lemmas.Bool.{eqb-false}
use Rattle.laws.specs.Order.{by_test}
use Rattle.g722.specs.declared.Decoder.{Decoder}
use Rattle.block.specs.Calls.{read_call}
use Rattle.lines.specs.Lines.{block_line}
use Rattle.playing.specs.Play.{start_player, begins, afresh, decoder_for, reported}
use Rattle.playing.proofs.PlayCalls.{play_unread}
use Rattle.playing.specs.Run.{Playing, onward, after}
use Rattle.playing.proofs.Enough.{AllRead, Ready, stays_ready, ready_after, fresh_ready}
use Rattle.playing.proofs.Said.{said, is_said, next_said}
use Rattle.playing.specs.declared.Player.{Player}
use Rattle.playing.specs.Answer.{Played}
use Rattle.listing.specs.Listed.{listed}
use Rattle.listing.specs.Listing.{pieces, start, lines_from, listing}
use Rattle.listing.proofs.Turns.{pieces_none, pieces_some}

-- ---- the lines of a recording depend on the record that its first block starts from, and on nothing else that was before

abbrev StartAlike : Playing → Playing → List (List ℕ) → Type 0
StartAlike p q [] = Unit {0}
StartAlike p q (piece ∷ rest) = decoder_for p.player (read_call piece) ≡ decoder_for q.player (read_call piece)

start_alike : (p q : Playing) (pieces : List (List ℕ)) → p.player ≡ q.player → StartAlike p q pieces
start_alike p q [] e = tt
start_alike p q (piece ∷ rest) e = ap (λ (x : Player). decoder_for x (read_call piece)) e

-- a block that reads well: its line, and the lines after it
line_read : (p : Playing) (k : ℕ) (piece : List ℕ) (rest : List (List ℕ)) → (read_call piece).number ≡ 0 → Ready p
    → lines_from p k (piece ∷ rest)
    ≡ listed (said (decoder_for p.player (read_call piece)) piece) k ∷ lines_from (onward p piece) (k + 1) rest
unfolding lines_from reported
line_read p k piece rest z r =
    ap (λ (a : Played). listed a k ∷ cond (eqb a.number 0) (lines_from (onward p piece) (k + 1) rest) []) (is_said p piece z r)

lines_alike : (p q : Playing) (k : ℕ) (pieces : List (List ℕ)) → Ready p → Ready q → StartAlike p q pieces
    → lines_from p k pieces ≡ lines_from q k pieces
unfolding lines_from listed
lines_alike p q k [] r s e = refl
lines_alike p q k (piece ∷ rest) r s e =
    by_test (eqb (read_call piece).number 0)
    (λ t. let z = eqb-true (read_call piece).number 0 t in
    let next = next_said p piece z r ∙ ap (λ (d : Decoder). (said d piece).next) e ∙ sym (next_said q piece z s) in
    let more = lines_alike (onward p piece) (onward q piece) (k + 1) rest (stays_ready p piece z r) (stays_ready q piece z s)
    (start_alike (onward p piece) (onward q piece) rest next) in
    line_read p k piece rest z r
    ∙ (λ i. listed (said (e i) piece) k ∷ more i)
    ∙ sym (line_read q k piece rest z s))
    (λ t. let n = eqb-false (read_call piece).number 0 t in
    rw (play_unread p.player piece p.samples (read_call piece) refl n)
    (rw (play_unread q.player piece q.samples (read_call piece) refl n) (rw (ne_eqb (read_call piece).number 0 n))))

-- the count of the blocks before shows in a refusal alone
lines_counted : (p : Playing) (j k : ℕ) (pieces : List (List ℕ)) → Ready p → AllRead pieces
    → lines_from p j pieces ≡ lines_from p k pieces
unfolding lines_from AllRead listed reported
lines_counted p j k [] r a = refl
lines_counted p j k (piece ∷ rest) r a =
    let b = said (decoder_for p.player (read_call piece)) piece in
    line_read p j piece rest a.0 r
    ∙ ap (λ (more : List (List ℕ)). block_line b.take b.block b.mode b.count b.first b.last b.limited ∷ more)
    (lines_counted (onward p piece) (j + 1) (k + 1) rest (stays_ready p piece a.0 r) a.1)
    ∙ sym (line_read p k piece rest a.0 r)

-- ---- cut in two

lines_cut : (p : Playing) (k : ℕ) (front back : List (List ℕ)) → Ready p → AllRead front
    → lines_from p k (front ++ back) ≡ lines_from p k front ++ lines_from (after p front) (k + length front) back
unfolding lines_from after AllRead
lines_cut p k [] back r a = let n : k ≡ k + 0 = omega arith in ap (λ (j : ℕ). lines_from p j back) n
lines_cut p k (piece ∷ rest) back r a =
    let n : k + 1 + length rest ≡ k + length (piece ∷ rest) = omega arith in
    let q = onward p piece in
    line_read p k piece (rest ++ back) a.0 r
    ∙ ap (λ (more : List (List ℕ)). listed (said (decoder_for p.player (read_call piece)) piece) k ∷ more)
    (lines_cut q (k + 1) rest back (stays_ready p piece a.0 r) a.1
    ∙ ap (λ (j : ℕ). lines_from q (k + 1) rest ++ lines_from (after q rest) j back) n)
    ∙ ap (λ (l : List (List ℕ)). l ++ lines_from (after q rest) (k + length (piece ∷ rest)) back) (sym (line_read p k piece rest a.0 r))

-- the player after blocks of which this is the last remembers its take
take_kept : (p : Playing) (front : List (List ℕ)) (last : List ℕ) → Ready p → AllRead (front ++ (last ∷ []))
    → ((after p (front ++ (last ∷ []))).player.begun ≡ true) × ((after p (front ++ (last ∷ []))).player.take ≡ (read_call last).take)
unfolding after AllRead reported
take_kept p [] last r a =
    let e = next_said p last a.0 r in (ap (λ (x : Player). x.begun) e, ap (λ (x : Player). x.take) e)
take_kept p (piece ∷ rest) last r a = take_kept (onward p piece) rest last (stays_ready p piece a.0 r) a.1

start_ready : Ready start
unfolding start
start_ready = let n = length-replicate 960 (pos 0) in fresh_ready (replicate 960 (pos 0)) (omega arith)

-- so where a block begins a take, all lines from there on are those of a recording that begins with it, refusals among them; only a
-- refusal counts the blocks before it
pub cut_at_a_take : (k : ℕ) (front : List (List ℕ)) (last first : List ℕ) (back : List (List ℕ)) → AllRead (front ++ (last ∷ []))
    → begins (read_call last).take (read_call first) ≡ true
    → lines_from start k (front ++ (last ∷ []) ++ (first ∷ back))
    ≡ lines_from start k (front ++ (last ∷ [])) ++ lines_from start (k + length (front ++ (last ∷ []))) (first ∷ back)
unfolding decoder_for afresh start start_player
cut_at_a_take k front last first back a b =
    let blocks = front ++ (last ∷ []) in
    let kept = take_kept start front last start_ready a in
    let q = after start blocks in
    let alike : decoder_for q.player (read_call first) ≡ decoder_for start_player (read_call first) = rw (kept.0, kept.1, b) in
    lines_cut start k blocks (first ∷ back) start_ready a
    ∙ ap (λ (l : List (List ℕ)). lines_from start k blocks ++ l)
    (lines_alike q start (k + length blocks) (first ∷ back) (ready_after start blocks start_ready a) start_ready alike)

-- ---- of the bytes

pieces_one : (block : List ℕ) → length block ≡ 512 → pieces block ≡ block ∷ []
pieces_one block n =
    pieces_some block (omega arith)
    ∙ (λ i. take_all 512 block (omega arith) i ∷ (ap pieces (drop_of_length-le block {i = 512} (omega arith)) ∙ pieces_none) i)

pieces_join : (n : ℕ) (front back : List ℕ) → length front ≡ 512 * n → pieces (front ++ back) ≡ pieces front ++ pieces back
pieces_join zero [] back n = ap (λ (l : List (List ℕ)). l ++ pieces back) (sym pieces_none)
pieces_join zero (x ∷ front) back n = absurd (omega arith)
pieces_join (suc m) front back n =
    let l = length-append front back in
    let k = length-drop 512 front in
    pieces_some (front ++ back) (omega arith)
    ∙ (λ i. take-append-le 512 front back (omega arith) i
    ∷ (ap pieces (drop-append-le 512 front back (omega arith)) ∙ pieces_join m (drop 512 front) back (omega arith)) i)
    ∙ ap (λ (l : List (List ℕ)). l ++ pieces back) (sym (pieces_some front (omega arith)))

-- THE THEOREM. Where the blocks of two recordings read well, and the second begins with a block that begins a take after the last block of
-- the first, the listing of both in one is the listing of the first and then the listing of the second
pub joined_takes : (n : ℕ) (front last back : List ℕ) → length front ≡ 512 * n → length last ≡ 512 → 0 < length back
    → AllRead (pieces (front ++ last)) → AllRead (pieces back) → begins (read_call last).take (read_call (take 512 back)) ≡ true
    → listing (front ++ last ++ back) ≡ listing (front ++ last) ++ listing back
unfolding listing
joined_takes n front last back f l some a b t =
    let k = length-append front last in
    let blocks = pieces_join n front last f ∙ ap (λ (x : List (List ℕ)). pieces front ++ x) (pieces_one last l) in
    let more = pieces_some back some in
    let m = 0 + length (pieces front ++ (last ∷ [])) in
    ap (lines_from start 0) (pieces_join (suc n) (front ++ last) back (omega arith) ∙ λ i. blocks i ++ more i)
    ∙ cut_at_a_take 0 (pieces front) last (take 512 back) (pieces (drop 512 back)) (rw blocks at a) t
    ∙ (λ i. lines_from start 0 (sym blocks i) ++ (ap (lines_from start m) (sym more) ∙ lines_counted start m 0 (pieces back) start_ready b) i)
