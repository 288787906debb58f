-- The cue channel: data bytes in L6 of each octet in mode 2, in L5 and L6 in mode 3.
-- Highest bit first, so in mode 3 the earlier bit stands in L5.
-- Assumes nothing.
use Rattle.std.specs.Prelude.{Bool, cond, ◌||◌, not, List, [], ◌∷◌, ◌++◌, ℕ, zero, suc, ◌+◌, ◌*◌, ◌/◌, ◌%◌, ◌-◌, ◌^◌, ltb, eqb, length, take, drop}
use Rattle.laws.specs.Outcome.{Outcome}
use Rattle.g722.specs.Answers.{Moved}

-- the last k bits of a number, highest first, and those of each of a list
unfoldable pub bits : ℕ → ℕ → List ℕ
bits zero x = []
bits (suc k) x = (x / 2 ^ k % 2) ∷ bits k x

unfoldable pub bits_of : ℕ → List ℕ → List ℕ
bits_of k [] = []
bits_of k (x ∷ rest) = bits k x ++ bits_of k rest

-- the number that bits spell, highest first, after those read so far
unfoldable pub spelt : ℕ → List ℕ → ℕ
spelt n [] = n
spelt n (b ∷ rest) = spelt (n * 2 + b) rest

-- n bytes from their bits
unfoldable pub gathered : ℕ → List ℕ → List ℕ
gathered zero from = []
gathered (suc n) from = spelt 0 (take 8 from) ∷ gathered n (drop 8 from)

-- octets whose last k bits give way to others
unfoldable pub carrying : ℕ → List ℕ → List ℕ → List ℕ
carrying k [] from = []
carrying k (o ∷ rest) from = (o / 2 ^ k * 2 ^ k + spelt 0 (take k from)) ∷ carrying k rest (drop k from)

-- how many bits of an octet mode 2 or 3 gives up
abbrev pub given_up : ℕ → ℕ
given_up mode = mode - 1

-- the data must fill the octets, at most 8000
unfoldable pub unfilled : ℕ → ℕ → ℕ → Bool
unfilled mode octets bytes = ltb 8000 octets || not (eqb (8 * bytes) (given_up mode * octets))

-- a data call's number: 1, then 5, then 3
unfoldable pub data_number : ℕ → ℕ → ℕ → ℕ
data_number mode octets bytes = cond (ltb 3 mode) 1 (cond (ltb mode 2) 5 (cond (unfilled mode octets bytes) 3 0))

-- what a data call answers, and leaves: `old` if it is refused, else `new`
unfoldable pub data_call : ℕ → List ℕ → List ℕ → Outcome Moved (List ℕ)
data_call number old new = record { answer = record { number = number; index = 0 }; left = cond (eqb number 0) new old }

-- putting data into lent octets
unfoldable pub put_call : ℕ → List ℕ → List ℕ → Outcome Moved (List ℕ)
put_call mode octets bytes =
    data_call (data_number mode (length octets) (length bytes)) octets (carrying (given_up mode) octets (bits_of 8 bytes))

-- taking it out of octets into lent bytes
unfoldable pub take_call : ℕ → List ℕ → List ℕ → Outcome Moved (List ℕ)
take_call mode octets bytes =
    data_call (data_number mode (length octets) (length bytes)) bytes (gathered (length bytes) (bits_of (given_up mode) octets))
