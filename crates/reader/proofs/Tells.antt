-- A step tells what is found: no two give the same step.
use Rattle.std.proofs.Common.{◌≡◌, refl, cond, ℕ, Option, Some, None, Result, sym, ap, ◌∙◌}
use Rattle.g722.proofs.Tells.{result_of}
use Rattle.g722.specs.declared.Refusal.{Refusal}
use Rattle.block.specs.declared.Header.{Header}
use Rattle.block.proofs.Tells.{header_of, read_back}
use Rattle.reader.specs.Walk.{Step, stop, walked}
use Rattle.reader.specs.declared.Found.{Found}

block_of : Step → Option (Result Header Refusal)
block_of s = cond s.end None (Some (result_of s.block.number s.block.index (header_of s.block)))

again : Step → Found
again s = record { block = block_of s; next = s.next }

block_back : (b : Option (Result Header Refusal)) (at : ℕ) → block_of (stop b at) ≡ b
unfolding block_of
block_back None at = refl
block_back (Some b) at = ap Some (read_back b)

-- a step goes on where what is found does
next_back : (b : Option (Result Header Refusal)) (at : ℕ) → (stop b at).next ≡ at
next_back None at = refl
next_back (Some b) at = refl

pub walked_next : (f : Found) → f.next ≡ (walked f).next
walked_next f = sym (next_back f.block f.next)

again_back : (f : Found) → again (walked f) ≡ f
unfolding again
again_back f = λ i. record { block = block_back f.block f.next i; next = next_back f.block f.next i }

pub walked_tells : (f g : Found) → walked f ≡ walked g → f ≡ g
walked_tells f g e = sym (again_back f) ∙ (ap again e ∙ again_back g)
