-- A written block reads back as what was written: `reads_back` and `octets_back`.
-- Assumes nothing.
use Rattle.std.specs.Prelude.{◌≡◌, true, ℕ, zero, suc, ◌+◌, ◌-◌, ◌/◌, ◌%◌, ◌≤◌, ◌<◌, length, take, drop, replicate}
use Rattle.std.proofs.Math.Path.{refl, ap}
use Rattle.std.proofs.Common.{◌∙◌, arith, take_at, drop_at, drop-drop, get_or-append-add}
use mathlib.Core.List.{List, ◌++◌, append_assoc}
use Rattle.std.proofs.Math.ListN.{get_or, length-append}
use Rattle.std.proofs.lemmas.List.{length-replicate}
use borrow.Author.Tests.{eq-eqb}
use Rattle.block.specs.Check.{check}
use Rattle.big_endian.specs.Numbers.{two_bytes, two_at, four_at, two_back, four_back}
use Rattle.block.specs.Layout.{body, block_of}
use Rattle.block.specs.Calls.{allowed, all_zero, well_formed, read_call}
use Rattle.block.proofs.Formed.{allowed_bounds}
use Rattle.block.proofs.Steps.{check_below}

zeros : (k : ℕ) → all_zero (replicate k 0) ≡ true
unfolding all_zero
zeros zero = refl
zeros (suc k) = zeros k

-- take number t, block number n, mode m, octets o
module _ (t n m : ℕ) (o : List ℕ) where
  abbrev zs : List ℕ
  zs = replicate (510 - (12 + length o)) 0

  body_length : length o ≤ 480 → length (body t n m o) ≡ 510
  unfolding body
  body_length h = simp (length-append, length-replicate) (omega arith)

  pub block_length : length o ≤ 480 → length (block_of t n m o) ≡ 512
  unfolding block_of
  block_length h = length-append (body t n m o) (two_bytes (check (body t n m o))) ∙ omega (arith, body_length h)

  pub check_right : length o ≤ 480 → check (take 510 (block_of t n m o)) ≡ two_at (block_of t n m o) 510
  unfolding block_of
  check_right h =
      let b = body t n m o in
      let c = two_bytes (check b) in
      let hi : get_or (b ++ c) 510 0 ≡ check b / 256 % 256 = rw (body_length h) at (get_or-append-add b c 0 0) in
      let lo : get_or (b ++ c) 511 0 ≡ check b % 256 = rw (body_length h) at (get_or-append-add b c 1 0) in
      ap check (take_at b c 510 (body_length h)) ∙ omega (arith, check_below b)

  count_in : length o ≤ 480 → two_at (block_of t n m o) 10 ≡ length o
  unfolding block_of body
  count_in h = two_back (length o) (omega arith)

  take_in : t < 4294967296 → four_at (block_of t n m o) 0 ≡ t
  unfolding block_of body
  take_in h = four_back t h

  block_in : n < 4294967296 → four_at (block_of t n m o) 4 ≡ n
  unfolding block_of body
  block_in h = four_back n h

  mode_in : get_or (block_of t n m o) 8 0 ≡ m
  unfolding block_of body
  mode_in = refl

  zero_in : get_or (block_of t n m o) 9 0 ≡ 0
  unfolding block_of body
  zero_in = refl

  -- after the head come the octets, the zeros and the check
  tail_is : drop 12 (block_of t n m o) ≡ o ++ (zs ++ two_bytes (check (body t n m o)))
  unfolding block_of body
  tail_is = append_assoc o zs _

  behind_zero : all_zero (take (510 - (12 + length o)) (drop (12 + length o) (block_of t n m o))) ≡ true
  behind_zero =
      let k = 510 - (12 + length o) in
      let c = two_bytes (check (body t n m o)) in
      rw (
        ← drop-drop (length o) 12 (block_of t n m o),
        tail_is,
        drop_at o (zs ++ c) (length o) refl,
        take_at zs c k (length-replicate k 0),
      ) (zeros k)

  formed : allowed m (length o) ≡ true → well_formed (block_of t n m o) ≡ true
  unfolding well_formed
  formed h = rw (count_in (allowed_bounds m (length o) h).count_most, mode_in, h, zero_in, behind_zero)

  -- a block written with a mode of 1 to 3 and 1 to 480 octets is read with number 0,
  -- and with the take number, block number, mode and count that were written
  pub reads_back : t < 4294967296 → n < 4294967296 → allowed m (length o) ≡ true
      → (read_call (block_of t n m o) ≡ record { number = 0; index = 0; take = t; block = n; mode = m; count = length o })
  unfolding read_call
  reads_back ht hn h =
      let k = (allowed_bounds m (length o) h).count_most in
      rw (eq-eqb _ _ (block_length k), eq-eqb _ _ (check_right k), formed h) (cc (take_in ht, block_in hn, mode_in, count_in k))

  -- and its octets stand from byte 12 on
  pub octets_back : take (length o) (drop 12 (block_of t n m o)) ≡ o
  octets_back = rw tail_is (take_at o _ (length o) refl)
