-- The public functions of `quant`, each by its own contract: it asks nothing, and leaves one answer.
use mathlib.Core.Path.{refl}
use Rattle.laws.specs.One.{LeavesOne, equation}
use Rattle.quant.proofs as quant
use Rattle.quant.specs.contracts as contracts

pub quantl : LeavesOne contracts.quantl.ended (λ M 𝓤. contracts.quantl.clauses) quant.quantl.Symbol.name quant.quantl.Symbol.code
quantl = equation (λ κs a l m. refl) (λ M. quant.quantl.Met.met)

pub quanth : LeavesOne contracts.quanth.ended (λ M 𝓤. contracts.quanth.clauses) quant.quanth.Symbol.name quant.quanth.Symbol.code
quanth = equation (λ κs a l m. refl) (λ M. quant.quanth.Met.met)

pub in_force : LeavesOne contracts.in_force.ended (λ M 𝓤. contracts.in_force.clauses) quant.in_force.Symbol.name quant.in_force.Symbol.code
in_force = equation (λ κs a l m. refl) (λ M. quant.in_force.Met.met)

pub invqbl : LeavesOne contracts.invqbl.ended (λ M 𝓤. contracts.invqbl.clauses) quant.invqbl.Symbol.name quant.invqbl.Symbol.code
invqbl = equation (λ κs a l m. refl) (λ M. quant.invqbl.Met.met)

pub sub_band-LowSubBand-TOP : LeavesOne contracts.sub_band.LowSubBand.TOP.ended (λ M 𝓤. contracts.sub_band.LowSubBand.TOP.clauses) quant.sub_band.LowSubBand.TOP.Symbol.name quant.sub_band.LowSubBand.TOP.Symbol.code
sub_band-LowSubBand-TOP = equation (λ κs a l m. refl) (λ M. quant.sub_band.LowSubBand.TOP.Met.met)

pub sub_band-LowSubBand-FIRST : LeavesOne contracts.sub_band.LowSubBand.FIRST.ended (λ M 𝓤. contracts.sub_band.LowSubBand.FIRST.clauses) quant.sub_band.LowSubBand.FIRST.Symbol.name quant.sub_band.LowSubBand.FIRST.Symbol.code
sub_band-LowSubBand-FIRST = equation (λ κs a l m. refl) (λ M. quant.sub_band.LowSubBand.FIRST.Met.met)

pub sub_band-LowSubBand-interval : LeavesOne contracts.sub_band.LowSubBand.interval.ended (λ M 𝓤. contracts.sub_band.LowSubBand.interval.clauses) quant.sub_band.LowSubBand.interval.Symbol.name quant.sub_band.LowSubBand.interval.Symbol.code
sub_band-LowSubBand-interval = equation (λ κs a l m. refl) (λ M. quant.sub_band.LowSubBand.interval.Met.met)

pub sub_band-LowSubBand-to_word : LeavesOne contracts.sub_band.LowSubBand.to_word.ended (λ M 𝓤. contracts.sub_band.LowSubBand.to_word.clauses) quant.sub_band.LowSubBand.to_word.Symbol.name quant.sub_band.LowSubBand.to_word.Symbol.code
sub_band-LowSubBand-to_word = equation (λ κs a l m. refl) (λ M. quant.sub_band.LowSubBand.to_word.Met.met)

pub sub_band-LowSubBand-from_word : LeavesOne contracts.sub_band.LowSubBand.from_word.ended (λ M 𝓤. contracts.sub_band.LowSubBand.from_word.clauses) quant.sub_band.LowSubBand.from_word.Symbol.name quant.sub_band.LowSubBand.from_word.Symbol.code
sub_band-LowSubBand-from_word = equation (λ κs a l m. refl) (λ M. quant.sub_band.LowSubBand.from_word.Met.met)

pub sub_band-LowSubBand-output : LeavesOne contracts.sub_band.LowSubBand.output.ended (λ M 𝓤. contracts.sub_band.LowSubBand.output.clauses) quant.sub_band.LowSubBand.output.Symbol.name quant.sub_band.LowSubBand.output.Symbol.code
sub_band-LowSubBand-output = equation (λ κs a l m. refl) (λ M. quant.sub_band.LowSubBand.output.Met.met)

pub sub_band-LowSubBand-weight : LeavesOne contracts.sub_band.LowSubBand.weight.ended (λ M 𝓤. contracts.sub_band.LowSubBand.weight.clauses) quant.sub_band.LowSubBand.weight.Symbol.name quant.sub_band.LowSubBand.weight.Symbol.code
sub_band-LowSubBand-weight = equation (λ κs a l m. refl) (λ M. quant.sub_band.LowSubBand.weight.Met.met)

pub sub_band-LowSubBand-quant : LeavesOne contracts.sub_band.LowSubBand.quant.ended (λ M 𝓤. contracts.sub_band.LowSubBand.quant.clauses) quant.sub_band.LowSubBand.quant.Symbol.name quant.sub_band.LowSubBand.quant.Symbol.code
sub_band-LowSubBand-quant = equation (λ κs a l m. refl) (λ M. quant.sub_band.LowSubBand.quant.Met.met)

pub sub_band-LowSubBand-invqa : LeavesOne contracts.sub_band.LowSubBand.invqa.ended (λ M 𝓤. contracts.sub_band.LowSubBand.invqa.clauses) quant.sub_band.LowSubBand.invqa.Symbol.name quant.sub_band.LowSubBand.invqa.Symbol.code
sub_band-LowSubBand-invqa = equation (λ κs a l m. refl) (λ M. quant.sub_band.LowSubBand.invqa.Met.met)

pub sub_band-LowSubBand-logsc : LeavesOne contracts.sub_band.LowSubBand.logsc.ended (λ M 𝓤. contracts.sub_band.LowSubBand.logsc.clauses) quant.sub_band.LowSubBand.logsc.Symbol.name quant.sub_band.LowSubBand.logsc.Symbol.code
sub_band-LowSubBand-logsc = equation (λ κs a l m. refl) (λ M. quant.sub_band.LowSubBand.logsc.Met.met)

pub sub_band-LowSubBand-scale : LeavesOne contracts.sub_band.LowSubBand.scale.ended (λ M 𝓤. contracts.sub_band.LowSubBand.scale.clauses) quant.sub_band.LowSubBand.scale.Symbol.name quant.sub_band.LowSubBand.scale.Symbol.code
sub_band-LowSubBand-scale = equation (λ κs a l m. refl) (λ M. quant.sub_band.LowSubBand.scale.Met.met)

pub sub_band-LowSubBand-factors : LeavesOne contracts.sub_band.LowSubBand.factors.ended (λ M 𝓤. contracts.sub_band.LowSubBand.factors.clauses) quant.sub_band.LowSubBand.factors.Symbol.name quant.sub_band.LowSubBand.factors.Symbol.code
sub_band-LowSubBand-factors = equation (λ κs a l m. refl) (λ M. quant.sub_band.LowSubBand.factors.Met.met)

pub sub_band-HighSubBand-TOP : LeavesOne contracts.sub_band.HighSubBand.TOP.ended (λ M 𝓤. contracts.sub_band.HighSubBand.TOP.clauses) quant.sub_band.HighSubBand.TOP.Symbol.name quant.sub_band.HighSubBand.TOP.Symbol.code
sub_band-HighSubBand-TOP = equation (λ κs a l m. refl) (λ M. quant.sub_band.HighSubBand.TOP.Met.met)

pub sub_band-HighSubBand-FIRST : LeavesOne contracts.sub_band.HighSubBand.FIRST.ended (λ M 𝓤. contracts.sub_band.HighSubBand.FIRST.clauses) quant.sub_band.HighSubBand.FIRST.Symbol.name quant.sub_band.HighSubBand.FIRST.Symbol.code
sub_band-HighSubBand-FIRST = equation (λ κs a l m. refl) (λ M. quant.sub_band.HighSubBand.FIRST.Met.met)

pub sub_band-HighSubBand-interval : LeavesOne contracts.sub_band.HighSubBand.interval.ended (λ M 𝓤. contracts.sub_band.HighSubBand.interval.clauses) quant.sub_band.HighSubBand.interval.Symbol.name quant.sub_band.HighSubBand.interval.Symbol.code
sub_band-HighSubBand-interval = equation (λ κs a l m. refl) (λ M. quant.sub_band.HighSubBand.interval.Met.met)

pub sub_band-HighSubBand-to_word : LeavesOne contracts.sub_band.HighSubBand.to_word.ended (λ M 𝓤. contracts.sub_band.HighSubBand.to_word.clauses) quant.sub_band.HighSubBand.to_word.Symbol.name quant.sub_band.HighSubBand.to_word.Symbol.code
sub_band-HighSubBand-to_word = equation (λ κs a l m. refl) (λ M. quant.sub_band.HighSubBand.to_word.Met.met)

pub sub_band-HighSubBand-from_word : LeavesOne contracts.sub_band.HighSubBand.from_word.ended (λ M 𝓤. contracts.sub_band.HighSubBand.from_word.clauses) quant.sub_band.HighSubBand.from_word.Symbol.name quant.sub_band.HighSubBand.from_word.Symbol.code
sub_band-HighSubBand-from_word = equation (λ κs a l m. refl) (λ M. quant.sub_band.HighSubBand.from_word.Met.met)

pub sub_band-HighSubBand-output : LeavesOne contracts.sub_band.HighSubBand.output.ended (λ M 𝓤. contracts.sub_band.HighSubBand.output.clauses) quant.sub_band.HighSubBand.output.Symbol.name quant.sub_band.HighSubBand.output.Symbol.code
sub_band-HighSubBand-output = equation (λ κs a l m. refl) (λ M. quant.sub_band.HighSubBand.output.Met.met)

pub sub_band-HighSubBand-weight : LeavesOne contracts.sub_band.HighSubBand.weight.ended (λ M 𝓤. contracts.sub_band.HighSubBand.weight.clauses) quant.sub_band.HighSubBand.weight.Symbol.name quant.sub_band.HighSubBand.weight.Symbol.code
sub_band-HighSubBand-weight = equation (λ κs a l m. refl) (λ M. quant.sub_band.HighSubBand.weight.Met.met)

pub sub_band-HighSubBand-quant : LeavesOne contracts.sub_band.HighSubBand.quant.ended (λ M 𝓤. contracts.sub_band.HighSubBand.quant.clauses) quant.sub_band.HighSubBand.quant.Symbol.name quant.sub_band.HighSubBand.quant.Symbol.code
sub_band-HighSubBand-quant = equation (λ κs a l m. refl) (λ M. quant.sub_band.HighSubBand.quant.Met.met)

pub sub_band-HighSubBand-invqa : LeavesOne contracts.sub_band.HighSubBand.invqa.ended (λ M 𝓤. contracts.sub_band.HighSubBand.invqa.clauses) quant.sub_band.HighSubBand.invqa.Symbol.name quant.sub_band.HighSubBand.invqa.Symbol.code
sub_band-HighSubBand-invqa = equation (λ κs a l m. refl) (λ M. quant.sub_band.HighSubBand.invqa.Met.met)

pub sub_band-HighSubBand-logsc : LeavesOne contracts.sub_band.HighSubBand.logsc.ended (λ M 𝓤. contracts.sub_band.HighSubBand.logsc.clauses) quant.sub_band.HighSubBand.logsc.Symbol.name quant.sub_band.HighSubBand.logsc.Symbol.code
sub_band-HighSubBand-logsc = equation (λ κs a l m. refl) (λ M. quant.sub_band.HighSubBand.logsc.Met.met)

pub sub_band-HighSubBand-scale : LeavesOne contracts.sub_band.HighSubBand.scale.ended (λ M 𝓤. contracts.sub_band.HighSubBand.scale.clauses) quant.sub_band.HighSubBand.scale.Symbol.name quant.sub_band.HighSubBand.scale.Symbol.code
sub_band-HighSubBand-scale = equation (λ κs a l m. refl) (λ M. quant.sub_band.HighSubBand.scale.Met.met)

pub sub_band-HighSubBand-factors : LeavesOne contracts.sub_band.HighSubBand.factors.ended (λ M 𝓤. contracts.sub_band.HighSubBand.factors.clauses) quant.sub_band.HighSubBand.factors.Symbol.name quant.sub_band.HighSubBand.factors.Symbol.code
sub_band-HighSubBand-factors = equation (λ κs a l m. refl) (λ M. quant.sub_band.HighSubBand.factors.Met.met)
