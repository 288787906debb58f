-- What reading answers tells its result, and has no index.
use Rattle.std.proofs.Common.{◌≡◌, refl, ℕ, List, eqb, length, take, Result, Ok, Err, sym, ap, ◌∙◌}
use Rattle.laws.specs.Order.{by_test}
use Rattle.g722.proofs.Tells.{result_of, accepted_back, refused_back}
use Rattle.g722.specs.declared.Refusal.{Refusal}
use Rattle.big_endian.specs.Numbers.{two_at}
use Rattle.block.specs.Check.{check}
use Rattle.block.specs.Calls.{well_formed, read_call}
use Rattle.block.specs.Read.{BlockRead, read_as}
use Rattle.block.specs.declared.Header.{Header}

-- the four fields of a good block
abbrev pub header_of : BlockRead → Header
header_of b = record { take = b.take; block = b.block; mode = b.mode; count = b.count }

pub read_back : (r : Result Header Refusal) → result_of (read_as r).number (read_as r).index (header_of (read_as r)) ≡ r
read_back (Ok h) = accepted_back h
read_back (Err r) = refused_back r (header_of (read_as (Err r)))

pub read_tells : (r s : Result Header Refusal) → read_as r ≡ read_as s → r ≡ s
read_tells r s e = sym (read_back r) ∙ (ap (λ b. result_of b.number b.index (header_of b)) e ∙ read_back s)

-- reading gives no index
pub read_index : (b : List ℕ) → (read_call b).index ≡ 0
unfolding read_call
read_index b =
    by_test (eqb (length b) 512)
    (λ e. rw e (by_test (eqb (check (take 510 b)) (two_at b 510))
    (λ f. rw f (by_test (well_formed b) (λ g. rw g refl) (λ g. rw g refl)))
    (λ f. rw f refl)))
    (λ e. rw e refl)
