-- Eight times an output fits 16 bits.
use Rattle.tables.specs.Entries.{qq6_small, qq5_small}
use Rattle.quant.proofs.inverse.invqbl.Goals as goal

pub inverse-requires : goal.inverse-requires
inverse-requires c = rw c.qq6_at.ensures (qq6_small c.from_six-v.result.number)

pub inverse-requires-in-2 : goal.inverse-requires-in-2
inverse-requires-in-2 c = rw c.qq5_at.ensures (qq5_small c.from_five-v.result.number)
