-- The public functions of `lines`, each by its own contract: it asks nothing, and leaves one answer.
use mathlib.Core.Path.{refl}
use Rattle.laws.specs.One.{LeavesOne, equation}
use Rattle.lines.proofs as lines
use Rattle.lines.specs.contracts as contracts

pub block_line : LeavesOne contracts.block_line.ended (λ M 𝓤. contracts.block_line.clauses) lines.block_line.Symbol.name lines.block_line.Symbol.code
block_line = equation (λ κs a l m. refl) (λ M. lines.block_line.Met.met)

pub refused_line : LeavesOne contracts.refused_line.ended (λ M 𝓤. contracts.refused_line.clauses) lines.refused_line.Symbol.name lines.refused_line.Symbol.code
refused_line = equation (λ κs a l m. refl) (λ M. lines.refused_line.Met.met)

pub overload_line : LeavesOne contracts.overload_line.ended (λ M 𝓤. contracts.overload_line.clauses) lines.overload_line.Symbol.name lines.overload_line.Symbol.code
overload_line = equation (λ κs a l m. refl) (λ M. lines.overload_line.Met.met)

pub Line-text : LeavesOne contracts.Line.text.ended (λ M 𝓤. contracts.Line.text.clauses) lines.Line.text.Symbol.name lines.Line.text.Symbol.code
Line-text = equation (λ κs a l m. refl) (λ M. lines.Line.text.Met.met)
