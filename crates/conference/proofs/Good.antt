-- Good in, good out: a desk whose ports are 2 to 8 and whose records in use are good is so after every tick, refused or not; and at reset.
-- Assumes nothing.
use Rattle.std.specs.Prelude.{◌≡◌, Bool, true, false, ◌&&◌, eqb, ℤ, length, take, get_or}
use Rattle.std.proofs.Math.Path.{refl, ap}
use Rattle.std.proofs.Common.{sym, ◌∙◌, arith, eqb-true, get_or-take, length-take-le}
use mathlib.Core.List.{List, [], ◌∷◌, zip}
use Prim.Native.Nat.{ℕ, zero, suc, ◌≤◌, ◌<◌}
use Rattle.std.proofs.lemmas.Bool.{eqb-false}
use Rattle.std.proofs.Math.IntN.{pos}
use Rattle.std.proofs.Math.ListN.{length-replicate, get_or-replicate}
use Rattle.laws.specs.Both.{both, left_true, right_true}
use Rattle.laws.specs.Order.{by_test}
use Rattle.g722.specs.Records.{good_low, good_high, all_in_range, good_coder, good_decoder, reset_coder, reset_decoder}
use Rattle.g722.specs.declared.Coder.{Coder}
use Rattle.g722.specs.declared.Decoder.{Decoder}
use Rattle.facts.specs.Good.{low_good, high_good, coder_reset_good, decoder_reset_good}
use Rattle.facts.specs.Signals.{heard_good}
use Rattle.conference.specs.Ports.{decoder_from, coder_to}
use Rattle.conference.specs.Tick.{unseated, all_good, good_port, good_ports, signals_to, desk_after, tick_call, reset_desk}
use Rattle.conference.proofs.Cases.{seated, refused, Accepted, accepted}
use Rattle.conference.proofs.Rows.{pairs_length, pairs_at, each_at}
use Rattle.conference.specs.Own.{Eight}
use Rattle.conference.proofs.Own.{signals_long, still_eight, ports_stay}
use Rattle.conference.specs.declared.Desk.{Desk}

-- ---- one port

-- the past samples stay
past_good : (c : Coder) (s : ℤ × ℤ) → all_in_range c.past ≡ true → all_in_range (coder_to c s).past ≡ true
unfolding coder_to
past_good c s e = e

coder_stays_good : (c : Coder) (s : ℤ × ℤ) → good_coder c ≡ true → good_coder (coder_to c s) ≡ true
unfolding good_coder coder_to
coder_stays_good c s g =
    both (both (low_good c.low _) (high_good c.high _))
    (past_good c s (right_true (good_low c.low && good_high c.high) (all_in_range c.past) g))

decoder_stays_good : (d : Decoder) (o : ℕ) → good_decoder d ≡ true → good_decoder (decoder_from d o) ≡ true
unfolding decoder_from
decoder_stays_good d o g = heard_good d (o ∷ []) g

pub port_stays_good : (c : Coder) (d : Decoder) (s : ℤ × ℤ) (o : ℕ)
    → good_port (c, d) ≡ true → good_port (coder_to c s, decoder_from d o) ≡ true
unfolding good_port
port_stays_good c d s o g =
    both (coder_stays_good c s (left_true (good_coder c) (good_decoder d) g))
    (decoder_stays_good d o (right_true (good_coder c) (good_decoder d) g))

-- ---- all: each at its place

module _ {A : Type 0} (good : A → Bool) (a : A) where
  all_at : (row : List A) (k : ℕ) → all_good good row ≡ true → k < length row → good (get_or row k a) ≡ true
  unfolding all_good
  all_at [] k g h = absurd (omega arith)
  all_at (x ∷ row) zero g h = left_true (good x) (all_good good row) g
  all_at (x ∷ row) (suc k) g h = all_at row k (right_true (good x) (all_good good row) g) (omega arith)

  all_from : (row : List A) → ((k : ℕ) → k < length row → good (get_or row k a) ≡ true) → all_good good row ≡ true
  unfolding all_good
  all_from [] f = refl
  all_from (x ∷ row) f = both (f 0 (omega arith)) (all_from row (λ k h. f (suc k) (omega arith)))

-- ---- a tick

abbrev ports : Desk → List (Coder × Decoder)
ports desk = take desk.ports (zip desk.coders desk.decoders)

abbrev none : Coder × Decoder
none = (reset_coder, reset_decoder)

-- the records of port k
module _ (desk : Desk) (w : Eight desk) (m : desk.ports ≤ 8) where
  ports_long : length (ports desk) ≡ desk.ports
  ports_long = length-take-le desk.ports _ (omega (arith, pairs_length desk.coders desk.decoders, w.coders, w.decoders))

  port_at : (k : ℕ) → k < desk.ports → get_or (ports desk) k none ≡ (get_or desk.coders k reset_coder, get_or desk.decoders k reset_decoder)
  port_at k h =
      get_or-take desk.ports (zip desk.coders desk.decoders) k none h
      ∙ pairs_at desk.coders desk.decoders k reset_coder reset_decoder none (omega (arith, w.coders)) (omega (arith, w.decoders))

module _ (desk : Desk) (modes octets room : List ℕ) (w : Eight desk) (a : Accepted desk modes octets room) where
  abbrev next : Desk
  next = desk_after desk modes octets

  -- port k after the tick
  pub coder_at : (k : ℕ) → k < desk.ports
      → get_or next.coders k reset_coder
      ≡ coder_to (get_or desk.coders k reset_coder) (get_or (signals_to desk modes octets) k (pos 0, pos 0))
  unfolding desk_after
  coder_at k h =
      each_at coder_to desk.coders (signals_to desk modes octets) k reset_coder (pos 0, pos 0) (omega (arith, w.coders, a.most))
      (omega (arith, signals_long desk modes octets room w a))

  pub decoder_at : (k : ℕ) → k < desk.ports
      → get_or next.decoders k reset_decoder ≡ decoder_from (get_or desk.decoders k reset_decoder) (get_or octets k 0)
  unfolding desk_after
  decoder_at k h =
      each_at decoder_from desk.decoders octets k reset_decoder 0 (omega (arith, w.decoders, a.most)) (omega (arith, a.octets))

  good_at : (k : ℕ) → k < desk.ports → good_port (get_or (ports next) k none) ≡ true
  unfolding good_ports
  good_at k h =
      let before = all_at good_port none (ports desk) k a.good (rw (ports_long desk w a.most) h) in
      let stood = ap good_port (sym (port_at desk w a.most k h)) ∙ before in
      let after = port_at next (still_eight desk modes octets room w a) (rw ports_stay a.most) k (rw ports_stay h) in
      ap good_port (after ∙ λ i. (coder_at k h i, decoder_at k h i)) ∙ port_stays_good _ _ _ _ stood

  good_after : good_ports next ≡ true
  unfolding good_ports
  good_after =
      let long = ports_long next (still_eight desk modes octets room w a) (rw ports_stay a.most) in
      all_from good_port none (ports next) (λ k h. good_at k (omega (arith, long, ports_stay desk modes octets)))

-- THE THEOREMS: no caller is refused a desk that a tick or a reset gave it
abbrev pub GoodDesk : Desk → Type 0
GoodDesk desk = Eight desk × (unseated desk.ports ≡ false) × (good_ports desk ≡ true)

pub desk_stays_good : (desk : Desk) (modes octets room : List ℕ) → GoodDesk desk → GoodDesk (tick_call desk modes octets room).answer.next
desk_stays_good desk modes octets room (w, s, g) =
    by_test (eqb (tick_call desk modes octets room).answer.number 0)
    (λ e.
    let a = accepted desk modes octets room (eqb-true _ _ e) in
    rw a.done (still_eight desk modes octets room w a, rw ports_stay s, good_after desk modes octets room w a))
    (λ e. rw (refused desk modes octets room (eqb-false _ _ e)).0 (w, s, g))

module _ (n : ℕ) (s : unseated n ≡ false) where
  reset_eight : Eight (reset_desk n)
  unfolding reset_desk
  reset_eight = record { coders = length-replicate 8 reset_coder; decoders = length-replicate 8 reset_decoder }

  few : (reset_desk n).ports ≤ 8
  unfolding reset_desk
  few = (seated n s).1

  reset_port : (k : ℕ) → k < (reset_desk n).ports → good_port (get_or (ports (reset_desk n)) k none) ≡ true
  unfolding reset_desk good_port
  reset_port k h =
      let inside : k < 8 = omega (arith, few) in
      rw (
        port_at (reset_desk n) reset_eight few k h,
        get_or-replicate 8 k reset_coder reset_coder inside,
        get_or-replicate 8 k reset_decoder reset_decoder inside,
      ) (both coder_reset_good decoder_reset_good)

  pub desk_reset_good : GoodDesk (reset_desk n)
  unfolding reset_desk good_ports
  desk_reset_good =
      let long = ports_long (reset_desk n) reset_eight few in
      (reset_eight, s, all_from good_port none (ports (reset_desk n)) (λ k h. reset_port k (rw (← long) h)))
