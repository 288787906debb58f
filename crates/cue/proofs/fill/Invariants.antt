-- The octets done, and those to come carrying the bits to come, are the whole.
use Rattle.std.proofs.Common.{◌≡◌, ◌*◌, ◌++◌, take, drop}
use Rattle.g722.specs.Cue.{bits_of, carrying}
use Rattle.cue.proofs.fill.Given as goal

abbrev pub invariant-loop-i : goal.invariant-loop-i
invariant-loop-i l =
    take l.i l.octets ++ carrying l.k (drop l.i l.octets) (drop (l.k * l.i) (bits_of 8 l.bytes))
    ≡ carrying l.k l.initial.octets (bits_of 8 l.bytes)
