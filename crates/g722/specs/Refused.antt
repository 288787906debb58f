-- The numbers by which a refusal is told, and the index of a place.
-- Assumes nothing.
use Rattle.std.specs.Prelude.{ℕ}
use Rattle.g722.specs.declared.Refusal.{Refusal}
use Rattle.g722.specs.declared.Refusal.TheVariants.{Mode, Record, Length, Sample, DataChannel, BlockSize, Check, Contents, Ports}

abbrev pub number_of : Refusal → ℕ
number_of Mode = 1
number_of Record = 2
number_of Length = 3
number_of (Sample i) = 4
number_of DataChannel = 5
number_of BlockSize = 6
number_of Check = 7
number_of Contents = 8
number_of Ports = 9

abbrev pub index_of : Refusal → ℕ
index_of Mode = 0
index_of Record = 0
index_of Length = 0
index_of (Sample i) = i
index_of DataChannel = 0
index_of BlockSize = 0
index_of Check = 0
index_of Contents = 0
index_of Ports = 0
