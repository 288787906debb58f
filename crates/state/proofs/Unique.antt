-- The public functions of `state`, each by its own contract: it asks nothing, and leaves one answer and one content of lent memory.
use mathlib.Core.Path.{refl}
use base.Stored.{coded_list, coded_ℕ}
use Rattle.laws.specs.One.{LeavesOne, equation, call}
use Rattle.state.proofs as state
use Rattle.state.specs.contracts as contracts

pub read_coder : LeavesOne contracts.read_coder.ended (λ M 𝓤. contracts.read_coder.clauses) state.read_coder.Symbol.name state.read_coder.Symbol.code
read_coder = equation (λ κs a l m. refl) (λ M. state.read_coder.Met.met)

pub read_decoder : LeavesOne contracts.read_decoder.ended (λ M 𝓤. contracts.read_decoder.clauses) state.read_decoder.Symbol.name state.read_decoder.Symbol.code
read_decoder = equation (λ κs a l m. refl) (λ M. state.read_decoder.Met.met)

pub write_coder : LeavesOne contracts.write_coder.ended (λ M 𝓤. contracts.write_coder.clauses) state.write_coder.Symbol.name state.write_coder.Symbol.code
write_coder = call (coded_list coded_ℕ) (λ κs a l m e i. (tt, (e i, tt))) (λ M. state.write_coder.Met.met)

pub write_decoder : LeavesOne contracts.write_decoder.ended (λ M 𝓤. contracts.write_decoder.clauses) state.write_decoder.Symbol.name state.write_decoder.Symbol.code
write_decoder = call (coded_list coded_ℕ) (λ κs a l m e i. (tt, (e i, tt))) (λ M. state.write_decoder.Met.met)
