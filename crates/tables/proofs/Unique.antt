-- The public functions of `tables`, each by its own contract: it asks nothing, and leaves one answer.
use mathlib.Core.Path.{refl}
use Rattle.laws.specs.One.{LeavesOne, equation}
use Rattle.tables.proofs as tables
use Rattle.tables.specs.contracts as contracts

pub qq6_at : LeavesOne contracts.qq6_at.ended (λ M 𝓤. contracts.qq6_at.clauses) tables.qq6_at.Symbol.name tables.qq6_at.Symbol.code
qq6_at = equation (λ κs a l m. refl) (λ M. tables.qq6_at.Met.met)

pub qq5_at : LeavesOne contracts.qq5_at.ended (λ M 𝓤. contracts.qq5_at.clauses) tables.qq5_at.Symbol.name tables.qq5_at.Symbol.code
qq5_at = equation (λ κs a l m. refl) (λ M. tables.qq5_at.Met.met)

pub qq4_at : LeavesOne contracts.qq4_at.ended (λ M 𝓤. contracts.qq4_at.clauses) tables.qq4_at.Symbol.name tables.qq4_at.Symbol.code
qq4_at = equation (λ κs a l m. refl) (λ M. tables.qq4_at.Met.met)

pub qq2_at : LeavesOne contracts.qq2_at.ended (λ M 𝓤. contracts.qq2_at.clauses) tables.qq2_at.Symbol.name tables.qq2_at.Symbol.code
qq2_at = equation (λ κs a l m. refl) (λ M. tables.qq2_at.Met.met)

pub wl_at : LeavesOne contracts.wl_at.ended (λ M 𝓤. contracts.wl_at.clauses) tables.wl_at.Symbol.name tables.wl_at.Symbol.code
wl_at = equation (λ κs a l m. refl) (λ M. tables.wl_at.Met.met)

pub wh_at : LeavesOne contracts.wh_at.ended (λ M 𝓤. contracts.wh_at.clauses) tables.wh_at.Symbol.name tables.wh_at.Symbol.code
wh_at = equation (λ κs a l m. refl) (λ M. tables.wh_at.Met.met)

pub scale_at : LeavesOne contracts.scale_at.ended (λ M 𝓤. contracts.scale_at.clauses) tables.scale_at.Symbol.name tables.scale_at.Symbol.code
scale_at = equation (λ κs a l m. refl) (λ M. tables.scale_at.Met.met)
