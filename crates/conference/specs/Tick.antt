-- A tick of the desk: one octet from every port, one octet to every port, with its refusals; and the desk at reset.
-- Assumes nothing.
use Rattle.std.specs.Prelude.{Bool, true, false, cond, not, ◌&&◌, ◌||◌, ℕ, ◌+◌, ltb, eqb, ℤ, length, take, replicate}
use mathlib.Core.List.{List, [], ◌∷◌, zip, zip_with}
use Rattle.laws.specs.Outcome.{Outcome}
use Rattle.g722.specs.Arithmetic.{overloads}
use Rattle.g722.specs.Records.{good_coder, good_decoder, reset_coder, reset_decoder}
use Rattle.g722.specs.declared.Coder.{Coder}
use Rattle.g722.specs.declared.Decoder.{Decoder}
use Rattle.conference.specs.Sums.{sums_of, mixed}
use Rattle.conference.specs.Ports.{rls_from, rhs_from, decoder_from, octet_to, coder_to, each_port}
use Rattle.conference.specs.Answers.{Ticked}
use Rattle.conference.specs.declared.Desk.{Desk}

-- ---- what is refused

-- ports that are not 2 to 8
unfoldable pub unseated : ℕ → Bool
unseated ports = ltb ports 2 || ltb 8 ports

-- octets, modes or room that are not one for each port
unfoldable pub uneven : ℕ → ℕ → ℕ → ℕ → Bool
uneven ports modes octets room = not (eqb modes ports) || not (eqb octets ports) || not (eqb room ports)

-- a told mode above 3
unfoldable pub any_above : List ℕ → Bool
any_above [] = false
any_above (told ∷ modes) = ltb 3 told || any_above modes

-- the records of every port in use: those are the first
unfoldable pub all_good : {A : Type 0} → (A → Bool) → List A → Bool
all_good good [] = true
all_good good (a ∷ rest) = good a && all_good good rest

unfoldable pub good_port : Coder × Decoder → Bool
good_port (c, d) = good_coder c && good_decoder d

unfoldable pub good_ports : Desk → Bool
good_ports desk = all_good good_port (take desk.ports (zip desk.coders desk.decoders))

-- ---- what is done

-- the low and the high signal that each port hears: of the others, limited per band
unfoldable pub signals_to : Desk → List ℕ → List ℕ → List (ℤ × ℤ)
signals_to desk modes octets = zip (mixed (rls_from desk.decoders modes octets)) (mixed (rhs_from desk.decoders octets))

unfoldable pub octets_to : Desk → List ℕ → List ℕ → List ℕ
octets_to desk modes octets = zip_with octet_to desk.coders (signals_to desk modes octets)

unfoldable pub desk_after : Desk → List ℕ → List ℕ → Desk
desk_after desk modes octets =
    record {
      ports = desk.ports;
      coders = each_port coder_to desk.coders (signals_to desk modes octets);
      decoders = each_port decoder_from desk.decoders octets;
    }

-- how many of the sums are limited: of these low and high signals, and of a tick
unfoldable pub sums_limited : List ℤ → List ℤ → ℕ
sums_limited low high = overloads (sums_of low) + overloads (sums_of high)

unfoldable pub tick_limited : Desk → List ℕ → List ℕ → ℕ
tick_limited desk modes octets = sums_limited (rls_from desk.decoders modes octets) (rhs_from desk.decoders octets)

-- ---- the calls

-- a refused tick gives back the desk and the room as they came, and has no count
unfoldable pub not_ticked : ℕ → Desk → List ℕ → Outcome Ticked (List ℕ)
not_ticked number desk room = record { answer = record { number = number; index = 0; limited = 0; next = desk }; left = room }

unfoldable pub ticked : Desk → List ℕ → List ℕ → Outcome Ticked (List ℕ)
ticked desk modes octets =
    record {
      answer = record { number = 0; index = 0; limited = tick_limited desk modes octets; next = desk_after desk modes octets };
      left = octets_to desk modes octets;
    }

-- a tick: 9, then 3, then 1, then 2
unfoldable pub tick_call : Desk → List ℕ → List ℕ → List ℕ → Outcome Ticked (List ℕ)
tick_call desk modes octets room =
    cond (unseated desk.ports) (not_ticked 9 desk room)
    (cond (uneven desk.ports (length modes) (length octets) (length room)) (not_ticked 3 desk room)
    (cond (any_above modes) (not_ticked 1 desk room)
    (cond (not (good_ports desk)) (not_ticked 2 desk room)
    (ticked desk modes octets))))

-- a desk of so many ports at reset. Beside 9 it stands too, and every tick of it is refused with 9
unfoldable pub reset_desk : ℕ → Desk
reset_desk ports = record { ports = ports; coders = replicate 8 reset_coder; decoders = replicate 8 reset_decoder }

unfoldable pub reset_call : ℕ → Ticked
reset_call ports = record { number = cond (unseated ports) 9 0; index = 0; limited = 0; next = reset_desk ports }
