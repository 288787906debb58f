-- The public functions of `big_endian`, each by its own contract: it asks nothing, and leaves one answer and one content of lent memory.
use mathlib.Core.Path.{refl}
use base.Stored.{coded_list, coded_ℕ, coded_ℤ}
use Rattle.laws.specs.One.{LeavesOne, equation, call}
use Rattle.big_endian.proofs as big_endian
use Rattle.big_endian.specs.contracts as contracts

pub two_at : LeavesOne contracts.two_at.ended (λ M 𝓤. contracts.two_at.clauses) big_endian.two_at.Symbol.name big_endian.two_at.Symbol.code
two_at = equation (λ κs a l m. refl) (λ M. big_endian.two_at.Met.met)

pub four_at : LeavesOne contracts.four_at.ended (λ M 𝓤. contracts.four_at.clauses) big_endian.four_at.Symbol.name big_endian.four_at.Symbol.code
four_at = equation (λ κs a l m. refl) (λ M. big_endian.four_at.Met.met)

pub load : LeavesOne contracts.load.ended (λ M 𝓤. contracts.load.clauses) big_endian.load.Symbol.name big_endian.load.Symbol.code
load = call (coded_list coded_ℤ) (λ κs a l m e i. (tt, (e i, tt))) (λ M. big_endian.load.Met.met)

pub store : LeavesOne contracts.store.ended (λ M 𝓤. contracts.store.clauses) big_endian.store.Symbol.name big_endian.store.Symbol.code
store = call (coded_list coded_ℕ) (λ κs a l m e i. (tt, (e i, tt))) (λ M. big_endian.store.Met.met)
