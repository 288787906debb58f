-- Two streams of ticks that differ in one port's octets alone, and what that port is sent.
-- Assumes nothing.
use Rattle.std.specs.Prelude.{◌≡◌, List, [], ◌∷◌, ℕ, length, get_or}
use Rattle.g722.specs.Records.{reset_coder}
use Rattle.conference.specs.Sums.{without}
use Rattle.conference.specs.Tick.{tick_call}
use Rattle.conference.specs.declared.Desk.{Desk}

-- ---- ticks one after the other

-- what a tick is handed beside the desk
pub record TickInput : Type 0 where
  pub modes : List ℕ
  pub octets : List ℕ
  pub room : List ℕ

abbrev pub after : Desk → TickInput → Desk
after desk i = (tick_call desk i.modes i.octets i.room).answer.next

-- none of them is refused
abbrev pub NoneRefused : Desk → List TickInput → Type 0
NoneRefused desk [] = Unit {0}
NoneRefused desk (i ∷ is) = ((tick_call desk i.modes i.octets i.room).answer.number ≡ 0) × NoneRefused (after desk i) is

-- the octets that port k is sent
unfoldable pub sent_to : ℕ → Desk → List TickInput → List ℕ
sent_to k desk [] = []
sent_to k desk (i ∷ is) = get_or (tick_call desk i.modes i.octets i.room).left k 0 ∷ sent_to k (after desk i) is

-- two ticks that agree on all modes, and on every octet but that of port k
pub record ButFor (k : ℕ) (i j : TickInput) : Type 0 where
  pub modes : i.modes ≡ j.modes
  pub others : without k i.octets ≡ without k j.octets

abbrev pub AllButFor : ℕ → List TickInput → List TickInput → Type 0
AllButFor k [] [] = Unit {0}
AllButFor k [] (j ∷ js) = ⊥
AllButFor k (i ∷ is) [] = ⊥
AllButFor k (i ∷ is) (j ∷ js) = ButFor k i j × AllButFor k is js

-- a desk has eight places of each kind
pub record Eight (desk : Desk) : Type 0 where
  pub coders : length desk.coders ≡ 8
  pub decoders : length desk.decoders ≡ 8

-- two desks that are one to port k: as many ports, its coder, and the decoders of all others
pub record OneTo (k : ℕ) (d e : Desk) : Type 0 where
  pub ports : d.ports ≡ e.ports
  pub coder : get_or d.coders k reset_coder ≡ get_or e.coders k reset_coder
  pub decoders : without k d.decoders ≡ without k e.decoders
