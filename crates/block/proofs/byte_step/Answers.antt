-- `block::byte_step` meets its contract: the eight steps at once.
use Rattle.std.proofs.Common.{sym, arith, ◌*◌, ◌<◌}
use Rattle.std.specs.Int.Bits.{bit_xor}
use Rattle.std.proofs.lemmas.Nat.{xor_lt}
use Rattle.block.specs.Check.{byte_step}
use Rattle.block.proofs.Steps.{at_once}
use Rattle.block.proofs.byte_step.Goals as goal

pub returns : goal.returns
unfolding byte_step
returns c =
    let a = c.args in
    let met : bit_xor a.reg (a.byte * 256) < 65536 = xor_lt 16 a.reg (a.byte * 256) (omega arith) (omega arith) in
    rw c.from.ensures (sym (at_once _ met))
