-- Which number is given when, in the order of SCOPE: writing 6, 8; reading 6, 7, 8. And a refusal changes nothing.
-- Assumes nothing.
use Rattle.std.specs.Prelude.{◌≡◌, false, List, ℕ, ◌≤◌, eqb, length, get_or, take}
use Rattle.std.proofs.Common.{arith}
use borrow.Author.Tests.{eq-eqb, ne_eqb, eqb-true}
use Rattle.laws.specs.Order.{by_test}
use Rattle.block.specs.Check.{check}
use Rattle.big_endian.specs.Numbers.{two_at, four_at}
use Rattle.block.specs.Layout.{block_of}
use Rattle.block.specs.Calls.{allowed, not_written, write_call, well_formed, refused, read_call}
use Rattle.block.specs.Formed.{Allowed, Formed}
use Rattle.block.proofs.Formed.{allowed_bounds, allowed_within, formed_bytes, formed_within}

-- ---- writing take number t, block number n, mode m, octets o

module _ (t n m : ℕ) (o lent : List ℕ) where
  pub write_6 : (length lent ≡ 512 → ⊥) → write_call t n m o lent ≡ record { answer = record { number = 6; index = 0 }; left = lent }
  unfolding write_call not_written
  write_6 h = rw (ne_eqb (length lent) 512 h)

  disallowed : (Allowed m (length o) → ⊥) → allowed m (length o) ≡ false
  disallowed h = by_test (allowed m (length o)) (λ e. absurd (h (allowed_bounds m (length o) e))) (λ e. e)

  pub write_8 : length lent ≡ 512 → (Allowed m (length o) → ⊥)
      → write_call t n m o lent ≡ record { answer = record { number = 8; index = 0 }; left = lent }
  unfolding write_call not_written
  write_8 l h = rw (eq-eqb (length lent) 512 l, disallowed h)

  pub write_done : length lent ≡ 512 → Allowed m (length o)
      → write_call t n m o lent ≡ record { answer = record { number = 0; index = 0 }; left = block_of t n m o }
  unfolding write_call
  write_done l a = rw (eq-eqb (length lent) 512 l, allowed_within m (length o) a)

  -- a refused write leaves the lent bytes as they came
  pub write_refused : ((write_call t n m o lent).answer.number ≡ 0 → ⊥)
      → write_call t n m o lent ≡ record { answer = record { number = (write_call t n m o lent).answer.number; index = 0 }; left = lent }
  unfolding write_call not_written
  write_refused h =
      by_test (eqb (length lent) 512)
      (λ e. by_test (allowed m (length o)) (λ f. absurd (h (rw (e, f)))) (λ f. rw (e, f)))
      (λ e. rw e)

-- what `write` is proved by
pub ruleset writing = (write_6, write_8, write_done, allowed_bounds, allowed_within)

-- ---- reading

module _ (b : List ℕ) where
  pub read_6 : (length b ≡ 512 → ⊥) → read_call b ≡ refused 6
  unfolding read_call
  read_6 h = rw (ne_eqb (length b) 512 h)

  pub read_7 : length b ≡ 512 → (check (take 510 b) ≡ two_at b 510 → ⊥) → read_call b ≡ refused 7
  unfolding read_call
  read_7 l h = rw (eq-eqb (length b) 512 l, ne_eqb (check (take 510 b)) (two_at b 510) h)

  malformed : length b ≡ 512 → (Formed b → ⊥) → well_formed b ≡ false
  malformed l h = by_test (well_formed b) (λ e. absurd (h (formed_bytes b l e))) (λ e. e)

  pub read_8 : length b ≡ 512 → check (take 510 b) ≡ two_at b 510 → (Formed b → ⊥) → read_call b ≡ refused 8
  unfolding read_call
  read_8 l c h = rw (eq-eqb (length b) 512 l, eq-eqb (check (take 510 b)) (two_at b 510) c, malformed l h)

  pub read_done : length b ≡ 512 → check (take 510 b) ≡ two_at b 510 → Formed b
      → read_call b ≡ record { number = 0; index = 0; take = four_at b 0; block = four_at b 4; mode = get_or b 8 0; count = two_at b 10 }
  unfolding read_call
  read_done l c f = rw (eq-eqb (length b) 512 l, eq-eqb (check (take 510 b)) (two_at b 510) c, formed_within b l f)

  -- a refused block says its number and nothing else
  pub read_refused : ((read_call b).number ≡ 0 → ⊥)
      → read_call b ≡ record { number = (read_call b).number; index = 0; take = 0; block = 0; mode = 0; count = 0 }
  unfolding read_call
  read_refused h =
      by_test (eqb (length b) 512)
      (λ e. by_test (eqb (check (take 510 b)) (two_at b 510))
      (λ f. by_test (well_formed b) (λ g. absurd (h (rw (e, f, g)))) (λ g. rw (e, f, g)))
      (λ f. rw (e, f)))
      (λ e. rw e)

  -- no other number is given
  pub read_most : (read_call b).number ≤ 8
  unfolding read_call
  read_most =
      by_test (eqb (length b) 512)
      (λ e. by_test (eqb (check (take 510 b)) (two_at b 510))
      (λ f. by_test (well_formed b) (λ g. rw (e, f, g) (omega arith)) (λ g. rw (e, f, g) (omega arith)))
      (λ f. rw (e, f) (omega arith)))
      (λ e. rw e (omega arith))

-- what `read` is proved by
pub ruleset reading = (read_6, read_7, read_8, read_done, formed_bytes, formed_within)

-- what a block that reads well is
pub record Sound (b : List ℕ) : Type 0 where
  pub size : length b ≡ 512
  pub right : check (take 510 b) ≡ two_at b 510
  pub formed : Formed b

pub read_sound : (b : List ℕ) → (read_call b).number ≡ 0 → Sound b
unfolding read_call
read_sound b z =
    by_test (eqb (length b) 512)
    (λ e. by_test (eqb (check (take 510 b)) (two_at b 510))
    (λ f. by_test (well_formed b)
    (λ g. let l = eqb-true (length b) 512 e in
    record { size = l; right = eqb-true (check (take 510 b)) (two_at b 510) f; formed = formed_bytes b l g })
    (λ g. absurd (omega (arith, rw (e, f, g) at z))))
    (λ f. absurd (omega (arith, rw (e, f) at z))))
    (λ e. absurd (omega (arith, rw e at z)))
