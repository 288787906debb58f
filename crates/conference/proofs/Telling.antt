-- Cases that tell a wrong definition of the desk. Each is worked by hand.
-- Assumes nothing.
use Rattle.std.specs.Prelude.{◌≡◌, refl, true, false, ℕ, ◌+◌, ◌*◌, ℤ, pos, replicate, Err}
use mathlib.Core.List.{List, [], ◌∷◌, ◌++◌, map, zip, zip_with}
use Rattle.g722.specs.Arithmetic.{neg, within, equal, limit, limited, overloads}
use Rattle.g722.specs.Tables.{ila}
use Rattle.g722.specs.Quantise.{scale_at, scalel, scaleh}
use Rattle.g722.specs.Records.{in_range, all_in_range, good_poles, good_factors, good_low, good_high, good_coder, good_decoder}
use Rattle.g722.specs.Records.{reset_band, reset_coder, reset_decoder}
use Rattle.g722.specs.Opened.{meaning}
use Rattle.g722.specs.declared.Coder.{Coder}
use Rattle.g722.specs.declared.Decoder.{Decoder}
use Rattle.g722.specs.declared.Refusal.TheVariants.{Ports}
use Rattle.laws.specs.Clamp.{clamp}
use Rattle.conference.specs.Sums.{sum_of, without, ports_from, others_of, sums_of, mixed}
use Rattle.conference.specs.Ports.{rl_from, rh_from, rls_from, rhs_from, each_port}
use Rattle.conference.specs.Tick.{unseated, uneven, any_above, all_good, good_port, good_ports}
use Rattle.conference.specs.Tick.{signals_to, sums_limited, tick_limited, reset_desk, reset_call}
use Rattle.conference.specs.Answers.{reset_as}
use Rattle.conference.specs.declared.Desk.{Desk}

-- ---- what ports hear

-- each of eight without its own
pub eight_without_own : mixed (pos 1 ∷ pos 2 ∷ pos 4 ∷ pos 8 ∷ pos 16 ∷ pos 32 ∷ pos 64 ∷ pos 128 ∷ [])
    ≡ pos 254 ∷ pos 253 ∷ pos 251 ∷ pos 247 ∷ pos 239 ∷ pos 223 ∷ pos 191 ∷ pos 127 ∷ []
unfolding mixed sums_of ports_from others_of without sum_of limit clamp
eight_without_own = refl

-- a sum is limited, at either end, and not before the own signal has been left out
pub loud_sums : mixed (pos 16383 ∷ pos 16383 ∷ pos 16383 ∷ []) ++ mixed (neg 16384 ∷ neg 16384 ∷ pos 3 ∷ [])
    ≡ pos 16383 ∷ pos 16383 ∷ pos 16383 ∷ neg 16381 ∷ neg 16381 ∷ neg 16384 ∷ []
unfolding mixed sums_of ports_from others_of without sum_of limit clamp
loud_sums = refl

-- before they are limited
pub unlimited : sums_of (pos 16383 ∷ pos 16383 ∷ neg 5 ∷ []) ≡ pos 16378 ∷ pos 16378 ∷ pos 32766 ∷ []
unfolding sums_of ports_from others_of without sum_of
unlimited = refl

-- limited sums are counted, low and high, and those that reach an end as they are, are not
abbrev loud : List ℤ
loud = pos 16383 ∷ pos 16383 ∷ pos 16383 ∷ []

abbrev alone : ℤ → List ℤ
alone x = x ∷ pos 0 ∷ pos 0 ∷ []

pub lamp_of_sums : sums_limited loud (neg 16384 ∷ neg 16384 ∷ pos 3 ∷ []) ∷ sums_limited (alone (pos 16383)) (alone (neg 16384))
    ∷ sums_limited loud (alone (pos 0)) ∷ sums_limited (alone (pos 0)) loud ∷ []
    ≡ 4 ∷ 0 ∷ 3 ∷ 3 ∷ []
unfolding sums_limited overloads limited sums_of ports_from others_of without sum_of limit within equal clamp
lamp_of_sums = refl

-- three ports whose low signals are at the upper end: each hears two of them, and their high signals are small
abbrev swung : Decoder
swung =
    record {
      low = record {
        zeros = (reset_band (pos 0)).zeros;
        poles = record { a1 = pos 27648; a2 = neg 12288; r1 = pos 32767; r2 = neg 32768; p1 = pos 0; p2 = pos 0 };
        factors = record { log = pos 0; scale = pos 32 };
      };
      high = reset_band (pos 8);
      past = record { rl = replicate 11 (pos 0); rh = replicate 11 (pos 0) };
    }

pub lamp_of_tick : tick_limited (record { ports = 3; coders = replicate 8 reset_coder; decoders = replicate 8 swung })
    (1 ∷ 2 ∷ 3 ∷ []) (0x20 ∷ 0x20 ∷ 0x20 ∷ []) ≡ 3
unfolding tick_limited sums_limited rls_from rhs_from rl_from rh_from zip zip_with sums_of ports_from others_of without sum_of meaning
lamp_of_tick = refl

-- and of any tick, what is counted are the sums that are sent limited
module _ (desk : Desk) (modes octets : List ℕ) where
  abbrev low : List ℤ
  low = sums_of (rls_from desk.decoders modes octets)

  abbrev high : List ℤ
  high = sums_of (rhs_from desk.decoders octets)

  pub counted_are_sent : (signals_to desk modes octets ≡ zip (map limit low) (map limit high))
      × (tick_limited desk modes octets ≡ overloads low + overloads high)
  unfolding signals_to mixed tick_limited sums_limited
  counted_are_sent = (refl, refl)

-- a table moves where a port was given something
pub moved_and_not : each_port (λ (a b : ℕ). 100 * a + b) (1 ∷ 2 ∷ 3 ∷ []) (10 ∷ 20 ∷ []) ≡ 110 ∷ 220 ∷ 3 ∷ []
unfolding each_port
moved_and_not = refl

-- ---- what is refused

pub seats : unseated 0 ∷ unseated 1 ∷ unseated 2 ∷ unseated 8 ∷ unseated 9 ∷ unseated 255 ∷ []
    ≡ true ∷ true ∷ false ∷ false ∷ true ∷ true ∷ []
unfolding unseated
seats = refl

pub one_for_each : uneven 3 3 3 3 ∷ uneven 3 2 3 3 ∷ uneven 3 4 3 3 ∷ uneven 3 3 2 3 ∷ uneven 3 3 4 3 ∷ uneven 3 3 3 2 ∷ uneven 3 3 3 4 ∷ []
    ≡ false ∷ true ∷ true ∷ true ∷ true ∷ true ∷ true ∷ []
unfolding uneven
one_for_each = refl

pub modes_told : any_above (0 ∷ 1 ∷ 2 ∷ 3 ∷ []) ∷ any_above (4 ∷ 1 ∷ []) ∷ any_above (1 ∷ 2 ∷ 255 ∷ []) ∷ [] ≡ false ∷ true ∷ true ∷ []
unfolding any_above
modes_told = refl

-- records with a scale factor that the log factor does not give
abbrev broken : Coder
broken = record { low = reset_band (pos 33); high = reset_band (pos 8); past = replicate 22 (pos 0) }

abbrev broken_decoder : Decoder
broken_decoder =
    record { low = reset_band (pos 32); high = reset_band (pos 9); past = record { rl = replicate 11 (pos 0); rh = replicate 11 (pos 0) } }

-- two good ports, and a third whose records are these
abbrev third : ℕ → Coder → Decoder → Desk
third n c d = record { ports = n; coders = reset_coder ∷ reset_coder ∷ c ∷ []; decoders = reset_decoder ∷ reset_decoder ∷ d ∷ [] }

-- a broken record is refused where its port is in use, and only there
pub broken_records : good_ports (third 3 reset_coder reset_decoder) ∷ good_ports (third 3 broken reset_decoder)
    ∷ good_ports (third 3 reset_coder broken_decoder) ∷ good_ports (third 2 broken broken_decoder) ∷ []
    ≡ true ∷ false ∷ false ∷ true ∷ []
unfolding good_ports good_port all_good good_coder good_decoder reset_coder reset_decoder reset_band good_low good_high good_poles good_factors
    all_in_range in_range within equal scalel scaleh scale_at ila zip
broken_records = refl

-- ---- at reset

pub reset_numbers : (reset_call 1).number ∷ (reset_call 2).number ∷ (reset_call 8).number ∷ (reset_call 9).number ∷ [] ≡ 9 ∷ 0 ∷ 0 ∷ 9 ∷ []
unfolding reset_call unseated
reset_numbers = refl

pub reset_places : reset_call 5
    ≡ record {
      number = 0;
      index = 0;
      limited = 0;
      next = record { ports = 5; coders = replicate 8 reset_coder; decoders = replicate 8 reset_decoder };
    }
unfolding reset_call reset_desk unseated
reset_places = refl

-- the desk beside a refusal is the one that is answered
pub desk_beside : (d : Desk)
    → reset_as (Err (record { refusal = Ports; desk = d })) ≡ record { number = 9; index = 0; limited = 0; next = d }
desk_beside d = refl
