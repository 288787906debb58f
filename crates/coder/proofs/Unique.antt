-- The public functions of `coder`, each by its own contract: it asks nothing, and leaves one answer and one content of lent memory.
use mathlib.Core.Path.{refl}
use base.Stored.{coded_list, coded_ℕ}
use Rattle.laws.specs.One.{LeavesOne, equation, seen_call}
use Rattle.g722.proofs.Tells.{answered_tells}
use Rattle.coder.proofs as coder
use Rattle.coder.specs.contracts as contracts

pub reset : LeavesOne contracts.reset.ended (λ M 𝓤. contracts.reset.clauses) coder.reset.Symbol.name coder.reset.Symbol.code
reset = equation (λ κs a l m. refl) (λ M. coder.reset.Met.met)

pub good_coder : LeavesOne contracts.good_coder.ended (λ M 𝓤. contracts.good_coder.clauses) coder.good_coder.Symbol.name coder.good_coder.Symbol.code
good_coder = equation (λ κs a l m. refl) (λ M. coder.good_coder.Met.met)

pub code : LeavesOne contracts.code.ended (λ M 𝓤. contracts.code.clauses) coder.code.Symbol.name coder.code.Symbol.code
code = seen_call (coded_list coded_ℕ) (λ κs a r s. answered_tells a.0 r s) (λ κs a l m e i. (tt, (tt, (e i, tt)))) (λ M. coder.code.Met.met)
