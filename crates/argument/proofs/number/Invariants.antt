-- the digits that are left, behind the number so far, give the whole
use Rattle.std.proofs.Common.{◌≡◌, ◌<◌, drop}
use Rattle.argument.specs.Number.{none, on, number_of}
use Rattle.argument.proofs.number.Given as goal

abbrev pub invariant-loop-byte : goal.invariant-loop-byte
invariant-loop-byte l = record {
  below : l.all < none;
  whole : on l.all (drop l.byte-index l.word) ≡ number_of l.word;
}
