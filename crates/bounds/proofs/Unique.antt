-- The public functions of `bounds`, each by its own contract: it asks nothing, and leaves one answer.
use mathlib.Core.Path.{refl}
use Rattle.laws.specs.One.{LeavesOne, equation}
use Rattle.bounds.proofs as bounds
use Rattle.bounds.specs.contracts as contracts

pub misfit : LeavesOne contracts.misfit.ended (λ M 𝓤. contracts.misfit.clauses) bounds.misfit.Symbol.name bounds.misfit.Symbol.code
misfit = equation (λ κs a l m. refl) (λ M. bounds.misfit.Met.met)

pub in_range : LeavesOne contracts.in_range.ended (λ M 𝓤. contracts.in_range.clauses) bounds.in_range.Symbol.name bounds.in_range.Symbol.code
in_range = equation (λ κs a l m. refl) (λ M. bounds.in_range.Met.met)

pub all_in_range : LeavesOne contracts.all_in_range.ended (λ M 𝓤. contracts.all_in_range.clauses) bounds.all_in_range.Symbol.name bounds.all_in_range.Symbol.code
all_in_range = equation (λ κs a l m. refl) (λ M. bounds.all_in_range.Met.met)

pub first_bad : LeavesOne contracts.first_bad.ended (λ M 𝓤. contracts.first_bad.clauses) bounds.first_bad.Symbol.name bounds.first_bad.Symbol.code
first_bad = equation (λ κs a l m. refl) (λ M. bounds.first_bad.Met.met)

pub good_poles : LeavesOne contracts.good_poles.ended (λ M 𝓤. contracts.good_poles.clauses) bounds.good_poles.Symbol.name bounds.good_poles.Symbol.code
good_poles = equation (λ κs a l m. refl) (λ M. bounds.good_poles.Met.met)

pub good_low : LeavesOne contracts.good_low.ended (λ M 𝓤. contracts.good_low.clauses) bounds.good_low.Symbol.name bounds.good_low.Symbol.code
good_low = equation (λ κs a l m. refl) (λ M. bounds.good_low.Met.met)

pub good_high : LeavesOne contracts.good_high.ended (λ M 𝓤. contracts.good_high.clauses) bounds.good_high.Symbol.name bounds.good_high.Symbol.code
good_high = equation (λ κs a l m. refl) (λ M. bounds.good_high.Met.met)

pub reset_band : LeavesOne contracts.reset_band.ended (λ M 𝓤. contracts.reset_band.clauses) bounds.reset_band.Symbol.name bounds.reset_band.Symbol.code
reset_band = equation (λ κs a l m. refl) (λ M. bounds.reset_band.Met.met)
