-- What the walk answers where: the end, as often as asked and told by the number alone; 6 for a short last piece; a refusal again and
-- again.
-- Assumes nothing.
use Rattle.std.specs.Prelude.{◌≡◌, true, false, List, ℕ, ◌+◌, ◌*◌, ◌≤◌, ◌<◌, eqb, ltb, leb, length, take, drop}
use Rattle.std.proofs.Common.{sym, ◌∙◌, arith, length-take, length-drop}
use Rattle.std.proofs.Math.Path.{ap}
use borrow.Author.Tests.{eq-eqb, ne_eqb, leb-true, leb-false, le-leb, lt-leb, ltb-true, ltb-false, lt-ltb, le-ltb}
use Rattle.laws.specs.Order.{by_test}
use Rattle.block.specs.Calls.{refused, read_call}
use Rattle.block.proofs.Numbers.{read_6, read_most}
use Rattle.block.specs.Read.{BlockRead}
use Rattle.reader.specs.Walk.{Step, ended, stood, step_at, next_at}

-- the 512 bytes of block number `at`, or as many as are left
abbrev pub piece_at : List ℕ → ℕ → List ℕ
piece_at s at = take 512 (drop (512 * at) s)

module _ (s : List ℕ) (at : ℕ) where
  pub step_end : length s ≤ 512 * at → step_at s at ≡ ended at
  unfolding step_at
  step_end h = rw (le-leb (length s) (512 * at) h)

  pub step_short : 512 * at < length s → length s < 512 * at + 512 → step_at s at ≡ stood (refused 6) at
  unfolding step_at
  step_short h k = rw (lt-leb (length s) (512 * at) h, lt-ltb (length s) (512 * at + 512) k)

  pub step_whole : 512 * at + 512 ≤ length s → step_at s at ≡ stood (read_call (piece_at s at)) at
  unfolding step_at
  step_whole h = rw (lt-leb (length s) (512 * at) (omega arith), le-ltb (length s) (512 * at + 512) h)

  -- where anything is left, the answer is what it reads as
  pub step_block : 512 * at < length s → step_at s at ≡ stood (read_call (piece_at s at)) at
  step_block h =
      by_test (ltb (length s) (512 * at + 512))
      (λ f. let k = ltb-true (length s) (512 * at + 512) f in
      step_short h k ∙ ap (λ (b : BlockRead). stood b at) (sym
      (read_6 (piece_at s at) (λ e. omega (arith, simp (length-take, length-drop) at e)))))
      (λ f. step_whole (ltb-false (length s) (512 * at + 512) f))

  -- the end is where nothing is left, and the walk stays there
  pub end_stays : length s ≤ 512 * at → ((step_at s at).end ≡ true) × (next_at s at ≡ at)
  end_stays h = let e = step_end h in (ap (λ (x : Step). x.end) e, ap (λ (x : Step). x.next) e)

  -- a last piece shorter than 512 bytes is refusal 6, and not the end
  pub short_refused : 512 * at < length s → length s < 512 * at + 512 → ((step_at s at).end ≡ false) × ((step_at s at).block.number ≡ 6)
  unfolding stood
  short_refused h k = let e = step_short h k in (ap (λ (x : Step). x.end) e, ap (λ (x : Step). x.block.number) e)

  -- the number alone tells the end: 255 is the end, and any other number is not
  pub end_told : (step_at s at).end ≡ eqb (step_at s at).block.number 255
  unfolding stood
  end_told =
      by_test (leb (length s) (512 * at))
      (λ e. rw (step_end (leb-true (length s) (512 * at) e)))
      (λ e. rw (step_block (leb-false (length s) (512 * at) e))
      (sym (ne_eqb (read_call (piece_at s at)).number 255 (λ z. omega (arith, read_most (piece_at s at))))))

  -- the walk stays at a refused block
  pub refused_stays : ((step_at s at).block.number ≡ 0 → ⊥) → next_at s at ≡ at
  unfolding stood
  refused_stays h =
      by_test (leb (length s) (512 * at))
      (λ e. ap (λ (x : Step). x.next) (step_end (leb-true (length s) (512 * at) e)))
      (λ e. let b = step_block (leb-false (length s) (512 * at) e) in
      ap (λ (x : Step). x.next) b ∙ rw (ne_eqb (read_call (piece_at s at)).number 0 (λ z. h (ap (λ (x : Step). x.block.number) b ∙ z))))

  -- and goes on past a good one
  pub good_moves : (step_at s at).block.number ≡ 0 → next_at s at ≡ at + 1
  unfolding stood
  good_moves z =
      by_test (leb (length s) (512 * at))
      (λ e. let n = ap (λ (x : Step). x.block.number) (step_end (leb-true (length s) (512 * at) e)) in absurd (omega arith))
      (λ e. let b = step_block (leb-false (length s) (512 * at) e) in
      ap (λ (x : Step). x.next) b ∙ rw (eq-eqb (read_call (piece_at s at)).number 0 (sym (ap (λ (x : Step). x.block.number) b) ∙ z)))
