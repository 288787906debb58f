-- Demand 3 at the conference desk: no leg parts. Of each port, over ticks none of which is refused: the desk's decoder is where a decoder is
-- that heard the port's octets, so it goes with the station's coder; and the station's decoder goes with the desk's coder, whatever stands
-- in the last two bits of what it received.
-- Assumes nothing.
use Rattle.std.specs.Prelude.{◌≡◌, refl, ℕ, ◌<◌, ℤ, pos, get_or}
use Rattle.std.proofs.Common.{sym, ap, ◌∙◌}
use mathlib.Core.List.{List, [], ◌∷◌, map, head-eq_of_cons-eq, tail-eq_of_cons-eq, nil≢cons, cons≢nil}
use Rattle.g722.specs.Coding.{octets_of, coder_after}
use Rattle.g722.specs.Records.{reset_coder, reset_decoder}
use Rattle.g722.specs.Steps.{band_after, heard_after}
use Rattle.g722.specs.declared.Coder.{Coder}
use Rattle.g722.specs.declared.Decoder.{Decoder}
use Rattle.facts.specs.Upper.{upper_six}
use Rattle.conference.specs.Ports.{decoder_from, octet_to, coder_to}
use Rattle.conference.specs.Tick.{signals_to, desk_after, tick_call}
use Rattle.conference.proofs.Cases.{accepted}
use Rattle.conference.specs.Own.{TickInput, NoneRefused, sent_to, Eight, after}
use Rattle.conference.proofs.Own.{still_eight, ports_stay, sent_octet}
use Rattle.conference.proofs.Good.{coder_at, decoder_at}
use Rattle.conference.specs.declared.Desk.{Desk}
use Rattle.promises.proofs.Through.{through}
use Rattle.promises.proofs.SameBands.{SameBands}
use Rattle.promises.proofs.Ends.{heard_at_end}
use Rattle.desk_promises.specs.SameSignals.{same_signals}
use Rattle.desk_promises.specs.DeskCalls.{ticking}

-- the records of port k
abbrev pub coder_of : ℕ → Desk → Coder
coder_of k desk = get_or desk.coders k reset_coder

abbrev pub decoder_of : ℕ → Desk → Decoder
decoder_of k desk = get_or desk.decoders k reset_decoder

-- the octets that it gave
abbrev pub given_by : ℕ → List TickInput → List ℕ
given_by k is = map (λ (i : TickInput). get_or i.octets k 0) is

-- port k after a tick that is not refused: its coder goes by what it hears, its decoder by what it gave
pub record Turned (k : ℕ) (desk : Desk) (i : TickInput) : Type 0 where
  pub eight : Eight (after desk i)
  pub ports : k < (after desk i).ports
  pub heard : ℤ × ℤ
  pub octet : get_or (tick_call desk i.modes i.octets i.room).left k 0 ≡ octet_to (coder_of k desk) heard
  pub coder : coder_of k (after desk i) ≡ coder_to (coder_of k desk) heard
  pub decoder : decoder_of k (after desk i) ≡ decoder_from (decoder_of k desk) (get_or i.octets k 0)

turn : (k : ℕ) (desk : Desk) (i : TickInput) → Eight desk → k < desk.ports
    → (tick_call desk i.modes i.octets i.room).answer.number ≡ 0 → Turned k desk i
turn k desk i w h n =
    let a = accepted desk i.modes i.octets i.room n in
    let next : after desk i ≡ desk_after desk i.modes i.octets = ap (λ x. x.answer.next) a.done in
    record {
      eight = rw next (still_eight desk i.modes i.octets i.room w a);
      ports = rw (next, ports_stay) h;
      heard = get_or (signals_to desk i.modes i.octets) k (pos 0, pos 0);
      octet = ap (λ x. get_or x.left k 0) a.done ∙ sent_octet k desk i w a h;
      coder = ap (coder_of k) next ∙ coder_at desk i.modes i.octets i.room w a k h;
      decoder = ap (decoder_of k) next ∙ decoder_at desk i.modes i.octets i.room w a k h;
    }

-- ---- from a station

heard_on : (d : Decoder) (o : ℕ) (os : List ℕ) → heard_after (decoder_from d o) os ≡ heard_after d (o ∷ os)
unfolding decoder_from heard_after band_after
heard_on d o os = refl

-- the desk's decoder of a port has heard that port's octets, and nothing else
pub port_hears : (k : ℕ) (desk : Desk) (is : List TickInput) → Eight desk → k < desk.ports → NoneRefused desk is
    → decoder_of k (through ticking desk is) ≡ heard_after (decoder_of k desk) (given_by k is)
unfolding through heard_after band_after
port_hears k desk [] w h n = refl
port_hears k desk (i ∷ is) w h n =
    let t = turn k desk i w h n.0 in
    port_hears k (after desk i) is t.eight t.ports n.1
    ∙ ap (λ (d : Decoder). heard_after d (given_by k is)) t.decoder
    ∙ heard_on (decoder_of k desk) (get_or i.octets k 0) (given_by k is)

-- THE THEOREM: so it has the bands of the station's coder, where all that this sent has come
pub leg_from_station : (k : ℕ) (desk : Desk) (is : List TickInput) (c : Coder) (s : List ℤ) → Eight desk → k < desk.ports
    → NoneRefused desk is → SameBands c (decoder_of k desk) → map upper_six (octets_of c s) ≡ map upper_six (given_by k is)
    → SameBands (coder_after c s) (decoder_of k (through ticking desk is))
leg_from_station k desk is c s w h n b e = rw (port_hears k desk is w h n) (heard_at_end c (decoder_of k desk) s (given_by k is) b e)

-- ---- to a station

-- THE THEOREM: a station's decoder that hears what its port was sent has the bands of the desk's coder
pub leg_to_station : (k : ℕ) (desk : Desk) (is : List TickInput) (d : Decoder) (rs : List ℕ) → Eight desk → k < desk.ports
    → NoneRefused desk is → SameBands (coder_of k desk) d → map upper_six (sent_to k desk is) ≡ map upper_six rs
    → SameBands (coder_of k (through ticking desk is)) (heard_after d rs)
unfolding through sent_to heard_after band_after
leg_to_station k desk [] d [] w h n b e = b
leg_to_station k desk [] d (r ∷ rs) w h n b e = absurd (nil≢cons e)
leg_to_station k desk (i ∷ is) d [] w h n b e = absurd (cons≢nil e)
leg_to_station k desk (i ∷ is) d (r ∷ rs) w h n b e =
    let t = turn k desk i w h n.0 in
    let one = same_signals (coder_of k desk) t.heard d r b (ap upper_six (sym t.octet) ∙ head-eq_of_cons-eq e) in
    leg_to_station k (after desk i) is (heard_after d (r ∷ [])) rs t.eight t.ports n.1 (rw t.coder one) (tail-eq_of_cons-eq e)
