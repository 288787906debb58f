-- The public functions of `mixer`, each by its own contract: it asks nothing, and leaves one answer and one content of lent memory.
use mathlib.Core.Path.{refl}
use base.Stored.{coded_list, coded_ℕ}
use Rattle.laws.specs.One.{LeavesOne, seen_equation, seen_call}
use Rattle.g722.proofs.Tells.{answered_tells}
use Rattle.mixer.proofs.Tells.{reset_tells}
use Rattle.mixer.proofs as mixer
use Rattle.mixer.specs.contracts as contracts

pub reset : LeavesOne contracts.reset.ended (λ M 𝓤. contracts.reset.clauses) mixer.reset.Symbol.name mixer.reset.Symbol.code
reset = seen_equation (λ κs a r s. reset_tells r s) (λ κs a l m. refl) (λ M. mixer.reset.Met.met)

pub tick : LeavesOne contracts.tick.ended (λ M 𝓤. contracts.tick.clauses) mixer.tick.Symbol.name mixer.tick.Symbol.code
tick = seen_call (coded_list coded_ℕ) (λ κs a r s. answered_tells a.0 r s) (λ κs a l m e i. (tt, (tt, (tt, (e i, tt))))) (λ M. mixer.tick.Met.met)
