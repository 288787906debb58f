-- The public functions of `arith`, each by its own contract: it asks nothing, and leaves one answer.
use mathlib.Core.Path.{refl}
use Rattle.laws.specs.One.{LeavesOne, equation}
use Rattle.arith.proofs as arith
use Rattle.arith.specs.contracts as contracts

pub fit : LeavesOne contracts.fit.ended (λ M 𝓤. contracts.fit.clauses) arith.fit.Symbol.name arith.fit.Symbol.code
fit = equation (λ κs a l m. refl) (λ M. arith.fit.Met.met)

pub clamp : LeavesOne contracts.clamp.ended (λ M 𝓤. contracts.clamp.clauses) arith.clamp.Symbol.name arith.clamp.Symbol.code
clamp = equation (λ κs a l m. refl) (λ M. arith.clamp.Met.met)

pub add : LeavesOne contracts.add.ended (λ M 𝓤. contracts.add.clauses) arith.add.Symbol.name arith.add.Symbol.code
add = equation (λ κs a l m. refl) (λ M. arith.add.Met.met)

pub sub : LeavesOne contracts.sub.ended (λ M 𝓤. contracts.sub.clauses) arith.sub.Symbol.name arith.sub.Symbol.code
sub = equation (λ κs a l m. refl) (λ M. arith.sub.Met.met)

pub mul : LeavesOne contracts.mul.ended (λ M 𝓤. contracts.mul.clauses) arith.mul.Symbol.name arith.mul.Symbol.code
mul = equation (λ κs a l m. refl) (λ M. arith.mul.Met.met)

pub limit : LeavesOne contracts.limit.ended (λ M 𝓤. contracts.limit.clauses) arith.limit.Symbol.name arith.limit.Symbol.code
limit = equation (λ κs a l m. refl) (λ M. arith.limit.Met.met)

pub changes : LeavesOne contracts.changes.ended (λ M 𝓤. contracts.changes.clauses) arith.changes.Symbol.name arith.changes.Symbol.code
changes = equation (λ κs a l m. refl) (λ M. arith.changes.Met.met)

pub size : LeavesOne contracts.size.ended (λ M 𝓤. contracts.size.clauses) arith.size.Symbol.name arith.size.Symbol.code
size = equation (λ κs a l m. refl) (λ M. arith.size.Met.met)

pub same : LeavesOne contracts.same.ended (λ M 𝓤. contracts.same.clauses) arith.same.Symbol.name arith.same.Symbol.code
same = equation (λ κs a l m. refl) (λ M. arith.same.Met.met)

pub same_sign : LeavesOne contracts.same_sign.ended (λ M 𝓤. contracts.same_sign.clauses) arith.same_sign.Symbol.name arith.same_sign.Symbol.code
same_sign = equation (λ κs a l m. refl) (λ M. arith.same_sign.Met.met)

pub within : LeavesOne contracts.within.ended (λ M 𝓤. contracts.within.clauses) arith.within.Symbol.name arith.within.Symbol.code
within = equation (λ κs a l m. refl) (λ M. arith.within.Met.met)
