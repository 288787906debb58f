-- The public functions of `band`, each by its own contract: it asks nothing, and leaves one answer.
use mathlib.Core.Path.{refl}
use Rattle.laws.specs.One.{LeavesOne, equation}
use Rattle.band.proofs as band
use Rattle.band.specs.contracts as contracts

pub filtez : LeavesOne contracts.filtez.ended (λ M 𝓤. contracts.filtez.clauses) band.filtez.Symbol.name band.filtez.Symbol.code
filtez = equation (λ κs a l m. refl) (λ M. band.filtez.Met.met)

pub filtep : LeavesOne contracts.filtep.ended (λ M 𝓤. contracts.filtep.clauses) band.filtep.Symbol.name band.filtep.Symbol.code
filtep = equation (λ κs a l m. refl) (λ M. band.filtep.Met.met)

pub estimate : LeavesOne contracts.estimate.ended (λ M 𝓤. contracts.estimate.clauses) band.estimate.Symbol.name band.estimate.Symbol.code
estimate = equation (λ κs a l m. refl) (λ M. band.estimate.Met.met)

pub upzero : LeavesOne contracts.upzero.ended (λ M 𝓤. contracts.upzero.clauses) band.upzero.Symbol.name band.upzero.Symbol.code
upzero = equation (λ κs a l m. refl) (λ M. band.upzero.Met.met)

pub uppol2 : LeavesOne contracts.uppol2.ended (λ M 𝓤. contracts.uppol2.clauses) band.uppol2.Symbol.name band.uppol2.Symbol.code
uppol2 = equation (λ κs a l m. refl) (λ M. band.uppol2.Met.met)

pub uppol1 : LeavesOne contracts.uppol1.ended (λ M 𝓤. contracts.uppol1.clauses) band.uppol1.Symbol.name band.uppol1.Symbol.code
uppol1 = equation (λ κs a l m. refl) (λ M. band.uppol1.Met.met)

pub next_zeros : LeavesOne contracts.next_zeros.ended (λ M 𝓤. contracts.next_zeros.clauses) band.next_zeros.Symbol.name band.next_zeros.Symbol.code
next_zeros = equation (λ κs a l m. refl) (λ M. band.next_zeros.Met.met)

pub next_poles : LeavesOne contracts.next_poles.ended (λ M 𝓤. contracts.next_poles.clauses) band.next_poles.Symbol.name band.next_poles.Symbol.code
next_poles = equation (λ κs a l m. refl) (λ M. band.next_poles.Met.met)

pub adapt : LeavesOne contracts.adapt.ended (λ M 𝓤. contracts.adapt.clauses) band.adapt.Symbol.name band.adapt.Symbol.code
adapt = equation (λ κs a l m. refl) (λ M. band.adapt.Met.met)
