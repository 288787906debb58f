-- The public functions of `block`, each by its own contract: it asks nothing, and leaves one answer and one content of lent memory.
use mathlib.Core.Path.{refl}
use base.Stored.{coded_list, coded_ℕ}
use Rattle.laws.specs.One.{LeavesOne, equation, seen_equation, seen_call}
use Rattle.g722.proofs.Tells.{moved_tells}
use Rattle.block.proofs.Tells.{read_tells}
use Rattle.block.proofs as block
use Rattle.block.specs.contracts as contracts

pub check : LeavesOne contracts.check.ended (λ M 𝓤. contracts.check.clauses) block.check.Symbol.name block.check.Symbol.code
check = equation (λ κs a l m. refl) (λ M. block.check.Met.met)

pub write : LeavesOne contracts.write.ended (λ M 𝓤. contracts.write.clauses) block.write.Symbol.name block.write.Symbol.code
write = seen_call (coded_list coded_ℕ) (λ κs a r s. moved_tells r s) (λ κs a l m e i. (tt, (tt, (tt, (tt, (e i, tt)))))) (λ M. block.write.Met.met)

pub read : LeavesOne contracts.read.ended (λ M 𝓤. contracts.read.clauses) block.read.Symbol.name block.read.Symbol.code
read = seen_equation (λ κs a r s. read_tells r s) (λ κs a l m. refl) (λ M. block.read.Met.met)
