-- The bytes done, and those that the bits to come spell, are the whole.
use Rattle.std.proofs.Common.{◌≡◌, ◌*◌, ◌-◌, ◌++◌, take, drop, length}
use Rattle.g722.specs.Cue.{bits_of, gathered}
use Rattle.cue.proofs.gather.Given as goal

abbrev pub invariant-loop-j : goal.invariant-loop-j
invariant-loop-j l =
    let n = length l.initial.bytes in
    take l.j l.bytes ++ gathered (n - l.j) (drop (8 * l.j) (bits_of l.k l.octets)) ≡ gathered n (bits_of l.k l.octets)
