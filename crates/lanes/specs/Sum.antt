-- The plain sum of a row of lanes, and whether neither its positive nor its negative terms, added up, leave 16 bits.
-- Assumes nothing.
use mathlib.Core.List.{List, zip_with}
use Rattle.std.specs.Prelude.{ℤ}
use Rattle.idle.specs.Plain.{raw, total, fits}
use Rattle.lanes.specs.declared.PlainSum.{PlainSum}

unfoldable pub plain_of : List ℤ → List ℤ → PlainSum
plain_of b d = record { sum = total (zip_with raw b d); whole = fits (zip_with raw b d) }
