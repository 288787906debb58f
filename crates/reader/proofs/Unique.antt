-- The public functions of `reader`, each by its own contract: it asks nothing, and leaves one answer and one content of lent memory.
use mathlib.Core.Path.{◌≡◌, refl, sym, ◌∙◌}
use mathlib.Core.List.{List}
use Prim.Native.Nat.{ℕ}
use denote.Ref.{Bor}
use Rattle.laws.specs.One.{LeavesOne, claimed, equation, seen_equation}
use Rattle.reader.proofs.Tells.{walked_tells}
use Rattle.reader.specs.declared.Reader.{Reader}
use Rattle.reader.proofs as reader
use Rattle.reader.specs.contracts as contracts

-- a reader is its slice and its place
same : {r s : Reader} {src : Bor (List ℕ)} {at : ℕ} → (r.src ≡ src) × (r.at ≡ at) → (s.src ≡ src) × (s.at ≡ at) → r ≡ s
same p q = λ i. record { src = (p.0 ∙ sym q.0) i; at = (p.1 ∙ sym q.1) i }

pub step_at : LeavesOne contracts.step_at.ended (λ M 𝓤. contracts.step_at.clauses) reader.step_at.Symbol.name reader.step_at.Symbol.code
step_at = seen_equation (λ κs a r s. walked_tells r s) (λ κs a l m. refl) (λ M. reader.step_at.Met.met)

pub next_at : LeavesOne contracts.next_at.ended (λ M 𝓤. contracts.next_at.clauses) reader.next_at.Symbol.name reader.next_at.Symbol.code
next_at = equation (λ κs a l m. refl) (λ M. reader.next_at.Met.met)

pub new : LeavesOne contracts.new.ended (λ M 𝓤. contracts.new.clauses) reader.new.Symbol.name reader.new.Symbol.code
new = claimed (λ κs a l m. refl) (λ κs a r s e f p q. same p q) (λ M. reader.new.Met.met)

pub next : LeavesOne contracts.next.ended (λ M 𝓤. contracts.next.clauses) reader.next.Symbol.name reader.next.Symbol.code
next = seen_equation (λ κs a r s. walked_tells r s) (λ κs a l m. refl) (λ M. reader.next.Met.met)

pub moved_on : LeavesOne contracts.moved_on.ended (λ M 𝓤. contracts.moved_on.clauses) reader.moved_on.Symbol.name reader.moved_on.Symbol.code
moved_on = claimed (λ κs a l m. refl) (λ κs a r s e f p q. same p q) (λ M. reader.moved_on.Met.met)
