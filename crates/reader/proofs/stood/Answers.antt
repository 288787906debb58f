-- A block is good exactly if reading it was no refusal.
use Rattle.std.proofs.Common.{rules, ◌≡◌, refl, Result, Ok, Err, eqb}
use Rattle.std.specs.Result.{is_ok}
use borrow.Author.Tests.{ne_eqb}
use Rattle.g722.proofs.Tells.{refused_number}
use Rattle.g722.specs.Refused.{number_of}
use Rattle.g722.specs.declared.Refusal.{Refusal}
use Rattle.block.specs.Read.{read_as}
use Rattle.block.specs.declared.Header.{Header}
use Rattle.reader.specs.Walk.{stood}
use Rattle.reader.proofs.stood.Goals as goal

good : (b : Result Header Refusal) → eqb (read_as b).number 0 ≡ is_ok b
good (Ok h) = refl
good (Err r) = ne_eqb (number_of r) 0 (refused_number r)

pub returns-then-is_ok : goal.returns-then-is_ok
unfolding stood
returns-then-is_ok c = search (rules, good c.args.block)

pub returns-else-is_ok : goal.returns-else-is_ok
unfolding stood
returns-else-is_ok c = search (rules, good c.args.block)
