-- By the contract of the entry.
use Rattle.std.proofs.Common.{arith}
use mir.Syntax.{w16}
use mir.Facts.{to_z_pos}
use Rattle.g722.specs.Quantise.{scale_at}
use Rattle.tables.specs.Entries.{ila_small}
use Rattle.ila.proofs.stored.Goals as goal

pub overflow_add-result : goal.overflow_add-result
overflow_add-result c = omega (arith, c.ila_at.ensures, ila_small c.args.k)

pub overflow_mul-result : goal.overflow_mul-result
overflow_mul-result c = omega (arith, c.ila_at.ensures, ila_small c.args.k)

pub overflow_cast-result : goal.overflow_cast-result
overflow_cast-result c = record { sfits = omega (arith, c.ila_at.ensures, ila_small c.args.k) }

pub returns : goal.returns
unfolding scale_at
returns c = cc (to_z_pos w16 (overflow_cast-result c).sfits)
