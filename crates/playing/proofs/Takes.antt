-- A recording take by take: its blocks, played one after another, give the samples of each take decoded alone from reset.
-- Assumes nothing.
use Rattle.std.specs.Prelude.{◌≡◌, refl, cond, ℕ, ℤ}
use Rattle.std.proofs.Common.{subst, sym, ap, ap₂, ◌∙◌, eq-eqb, ne_eqb}
use mathlib.Core.List.{List, [], ◌∷◌, ◌++◌, append-nil, append_assoc, flat_map}
use Rattle.laws.specs.Order.{by_test}
use Rattle.g722.specs.Records.{reset_decoder}
use Rattle.g722.specs.declared.Decoder.{Decoder}
use Rattle.facts.specs.Told.{decoder_run, samples_run, decoder_join, samples_join}
use Rattle.block.specs.Calls.{read_call}
use Rattle.playing.specs.Play.{begins, afresh, decoder_for}
use Rattle.playing.specs.Run.{Playing, played, onward, AllPlayed, heard, after, told, all_told}
use Rattle.playing.specs.declared.Player.{Player}
use Rattle.playing.proofs.Run.{next_is, front_is}
use Rattle.playing.specs.Takes.{goes_on, in_front, takes, heard_alone, heard_in, left_by, GoOn}

-- put together again they are the recording
in_front_lem : (piece : List ℕ) (ts : List (List (List ℕ)))
    → flat_map (λ (t : List (List ℕ)). t) (in_front piece ts) ≡ piece ∷ flat_map (λ t. t) ts
unfolding in_front flat_map
in_front_lem piece [] = refl
in_front_lem piece (t ∷ ts) = refl

pub takes_together : (pieces : List (List ℕ)) → flat_map (λ (t : List (List ℕ)). t) (takes pieces) ≡ pieces
unfolding takes flat_map
takes_together [] = refl
takes_together (piece ∷ rest) =
    by_test (goes_on piece rest)
    (λ e. rw e (in_front_lem piece (takes rest) ∙ ap (λ (l : List (List ℕ)). piece ∷ l) (takes_together rest)))
    (λ e. rw e (ap (λ (l : List (List ℕ)). piece ∷ l) (takes_together rest)))

-- from reset the first is alone too
pub all_alone : (ts : List (List (List ℕ))) → heard_in reset_decoder ts ≡ flat_map heard_alone ts
unfolding heard_in flat_map
all_alone [] = refl
all_alone (t ∷ ts) = refl

heard_on : (d : Decoder) (piece : List ℕ) (ts : List (List (List ℕ)))
    → samples_run d (told piece) ++ heard_in (decoder_run d (told piece)) ts ≡ heard_in d (in_front piece ts)
unfolding heard_in in_front all_told flat_map
heard_on d piece [] = ap (λ l. samples_run d l ++ []) (sym (append-nil (told piece)))
heard_on d piece (t ∷ ts) =
    sym (append_assoc (samples_run d (told piece)) (samples_run (decoder_run d (told piece)) (all_told t)) (flat_map heard_alone ts))
    ∙ ap (λ (l : List ℤ). l ++ flat_map heard_alone ts) (sym (samples_join d (told piece) (all_told t)))

left_on : (d : Decoder) (piece : List ℕ) (ts : List (List (List ℕ))) → left_by (decoder_run d (told piece)) ts ≡ left_by d (in_front piece ts)
unfolding left_by in_front all_told
left_on d piece [] = ap (decoder_run d) (sym (append-nil (told piece)))
left_on d piece (t ∷ []) = sym (decoder_join d (told piece) (all_told t))
left_on d piece (t ∷ u ∷ ts) = refl

left_last : (d : Decoder) (t : List (List ℕ)) (piece : List ℕ) (ts : List (List (List ℕ)))
    → left_by d (t ∷ in_front piece ts) ≡ left_by reset_decoder (in_front piece ts)
unfolding left_by in_front
left_last d t piece [] = refl
left_last d t piece (u ∷ us) = refl

left_skips : (d : Decoder) (t : List (List ℕ)) (piece : List ℕ) (rest : List (List ℕ))
    → left_by d (t ∷ takes (piece ∷ rest)) ≡ left_by reset_decoder (takes (piece ∷ rest))
unfolding takes left_by
left_skips d t piece rest = by_test (goes_on piece rest) (λ e. rw e (left_last d t piece (takes rest))) (λ e. rw e)

-- ---- THE THEOREM

-- where the block after one that was played starts
start_next : (p : Playing) (piece : List ℕ) → (played p piece).answer.number ≡ 0 → (next : List ℕ)
    → decoder_for (onward p piece).player (read_call next)
    ≡ cond (begins (read_call piece).take (read_call next)) reset_decoder (decoder_run (decoder_for p.player (read_call piece)) (told piece))
unfolding decoder_for afresh
start_next p piece z next = ap (λ (q : Player). decoder_for q (read_call next)) (next_is p piece z)

pub samples_by_takes : (p : Playing) (piece : List ℕ) (rest : List (List ℕ)) → AllPlayed p (piece ∷ rest)
    → heard p (piece ∷ rest) ≡ heard_in (decoder_for p.player (read_call piece)) (takes (piece ∷ rest))
unfolding AllPlayed heard takes goes_on heard_in in_front all_told flat_map
samples_by_takes p piece [] a =
    ap (λ (l : List ℤ). l ++ []) (front_is p piece a.0) ∙ heard_on (decoder_for p.player (read_call piece)) piece []
samples_by_takes p piece (next ∷ more) a =
    let d = decoder_for p.player (read_call piece) in
    let ts = takes (next ∷ more) in
    ap₂ (λ (x y : List ℤ). x ++ y) (front_is p piece a.0)
    (samples_by_takes (onward p piece) next more a.1 ∙ ap (λ (e : Decoder). heard_in e ts) (start_next p piece a.0 next))
    ∙ by_test (begins (read_call piece).take (read_call next))
    (λ e. rw e (ap₂ (λ l (m : List ℤ). samples_run d l ++ m) (sym (append-nil (told piece))) (all_alone ts)))
    (λ e. rw e (heard_on d piece ts))

pub record_by_takes : (p : Playing) (piece : List ℕ) (rest : List (List ℕ)) → AllPlayed p (piece ∷ rest)
    → (after p (piece ∷ rest)).player.decoder ≡ left_by (decoder_for p.player (read_call piece)) (takes (piece ∷ rest))
unfolding AllPlayed after takes goes_on left_by in_front
record_by_takes p piece [] a =
    ap (λ (q : Player). q.decoder) (next_is p piece a.0) ∙ left_on (decoder_for p.player (read_call piece)) piece []
record_by_takes p piece (next ∷ more) a =
    let d = decoder_for p.player (read_call piece) in
    let ts = takes (next ∷ more) in
    record_by_takes (onward p piece) next more a.1 ∙ ap (λ (e : Decoder). left_by e ts) (start_next p piece a.0 next)
    ∙ by_test (begins (read_call piece).take (read_call next))
    (λ e. rw e (sym (left_skips d (piece ∷ []) next more)))
    (λ e. rw e (left_on d piece ts))

pub one_take : (piece : List ℕ) (rest : List (List ℕ)) → GoOn (read_call piece).take rest → takes (piece ∷ rest) ≡ (piece ∷ rest) ∷ []
unfolding takes goes_on GoOn begins in_front
one_take piece [] g = refl
one_take piece (next ∷ more) g =
    rw (ne_eqb (read_call next).block 0 g.1, eq-eqb (read_call next).take (read_call piece).take g.0)
    (ap (in_front piece) (one_take next more (subst (λ (number : ℕ). GoOn number more) (sym g.0) g.2)))
