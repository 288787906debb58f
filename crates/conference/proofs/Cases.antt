-- What the tests of a tick say, and a tick case by case: 9, then 3, then 1, then 2, with the desk and the room as they came; and what is
-- done else.
-- Assumes nothing.
use Rattle.std.specs.Prelude.{◌≡◌, refl, true, false, List, ℕ, ◌≤◌, ltb, eqb, length}
use Rattle.std.proofs.Common.{ap, arith, ltb-false, eqb-true}
use Rattle.laws.specs.Order.{no, by_test}
use Rattle.laws.specs.Outcome.{Outcome}
use Rattle.conference.specs.Tick.{unseated, uneven, any_above, good_ports, octets_to, desk_after}
use Rattle.conference.specs.Tick.{tick_limited, not_ticked, ticked, tick_call, reset_desk}
use Rattle.conference.specs.declared.Desk.{Desk}
use Rattle.conference.specs.Answers.{Ticked}

-- ---- what the tests say

pub seated : (ports : ℕ) → unseated ports ≡ false → (2 ≤ ports) × (ports ≤ 8)
unfolding unseated
seated ports e =
    by_test (ltb ports 2)
    (λ f. no (rw f at e))
    (λ f. by_test (ltb 8 ports) (λ g. no (rw (f, g) at e)) (λ g. (ltb-false _ _ f, ltb-false _ _ g)))

pub even : (ports modes octets room : ℕ) → uneven ports modes octets room ≡ false
    → (modes ≡ ports) × (octets ≡ ports) × (room ≡ ports)
unfolding uneven
even ports modes octets room e =
    by_test (eqb modes ports)
    (λ m. by_test (eqb octets ports)
    (λ o. by_test (eqb room ports) (λ r. (eqb-true _ _ m, eqb-true _ _ o, eqb-true _ _ r)) (λ r. no (rw (m, o, r) at e)))
    (λ o. no (rw (m, o) at e)))
    (λ m. no (rw m at e))

-- ---- the cases

module _ (desk : Desk) (modes octets room : List ℕ) where
  pub tick_9 : unseated desk.ports ≡ true
      → tick_call desk modes octets room ≡ record { answer = record { number = 9; index = 0; limited = 0; next = desk }; left = room }
  unfolding tick_call not_ticked
  tick_9 s = rw s

  module _ (s : unseated desk.ports ≡ false) where
    pub tick_3 : uneven desk.ports (length modes) (length octets) (length room) ≡ true
        → tick_call desk modes octets room ≡ record { answer = record { number = 3; index = 0; limited = 0; next = desk }; left = room }
    unfolding tick_call not_ticked
    tick_3 n = rw (s, n)

    module _ (n : uneven desk.ports (length modes) (length octets) (length room) ≡ false) where
      pub tick_1 : any_above modes ≡ true
          → tick_call desk modes octets room ≡ record { answer = record { number = 1; index = 0; limited = 0; next = desk }; left = room }
      unfolding tick_call not_ticked
      tick_1 m = rw (s, n, m)

      module _ (m : any_above modes ≡ false) where
        pub tick_2 : good_ports desk ≡ false
            → tick_call desk modes octets room ≡ record { answer = record { number = 2; index = 0; limited = 0; next = desk }; left = room }
        unfolding tick_call not_ticked
        tick_2 g = rw (s, n, m, g)

        pub tick_0 : good_ports desk ≡ true
            → tick_call desk modes octets room
            ≡ record {
              answer = record { number = 0; index = 0; limited = tick_limited desk modes octets; next = desk_after desk modes octets };
              left = octets_to desk modes octets;
            }
        unfolding tick_call ticked
        tick_0 g = rw (s, n, m, g)

-- a desk that a refused reset answered is refused by every tick
pub no_desk_ticks : (ports : ℕ) (modes octets room : List ℕ) → unseated ports ≡ true
    → (tick_call (reset_desk ports) modes octets room).answer.number ≡ 9
unfolding reset_desk
no_desk_ticks ports modes octets room s = ap (λ x. x.answer.number) (tick_9 (reset_desk ports) modes octets room s)

-- ---- a tick that is refused changes nothing and counts nothing, and one that is not

module _ (desk : Desk) (ms os room : List ℕ) where
  pub refused : ((tick_call desk ms os room).answer.number ≡ 0 → ⊥)
      → ((tick_call desk ms os room).answer.next ≡ desk) × ((tick_call desk ms os room).left ≡ room)
      × ((tick_call desk ms os room).answer.limited ≡ 0)
  refused f =
      by_test (unseated desk.ports) (λ s. rw (tick_9 desk ms os room s) (refl, refl, refl)) (λ s.
      by_test (uneven desk.ports (length ms) (length os) (length room)) (λ n. rw (tick_3 desk ms os room s n) (refl, refl, refl)) (λ n.
      by_test (any_above ms) (λ m. rw (tick_1 desk ms os room s n m) (refl, refl, refl)) (λ m.
      by_test (good_ports desk)
      (λ g. absurd (f (ap (λ x. x.answer.number) (tick_0 desk ms os room s n m g))))
      (λ g. rw (tick_2 desk ms os room s n m g) (refl, refl, refl)))))

pub record Accepted (desk : Desk) (ms os room : List ℕ) : Type 0 where
  pub least : 2 ≤ desk.ports
  pub most : desk.ports ≤ 8
  pub modes : length ms ≡ desk.ports
  pub octets : length os ≡ desk.ports
  pub good : good_ports desk ≡ true
  pub done : tick_call desk ms os room
      ≡ record {
        answer = record { number = 0; index = 0; limited = tick_limited desk ms os; next = desk_after desk ms os };
        left = octets_to desk ms os;
      }

module _ (desk : Desk) (ms os room : List ℕ) where
  abbrev number : Outcome Ticked (List ℕ) → ℕ
  number x = x.answer.number

  pub accepted : number (tick_call desk ms os room) ≡ 0 → Accepted desk ms os room
  accepted h =
      by_test (unseated desk.ports) (λ s. absurd (omega (arith, h, ap number (tick_9 desk ms os room s)))) (λ s.
      by_test (uneven desk.ports (length ms) (length os) (length room))
      (λ n. absurd (omega (arith, h, ap number (tick_3 desk ms os room s n)))) (λ n.
      by_test (any_above ms) (λ m. absurd (omega (arith, h, ap number (tick_1 desk ms os room s n m)))) (λ m.
      by_test (good_ports desk)
      (λ g.
      let seat = seated desk.ports s in
      let long = even desk.ports (length ms) (length os) (length room) n in
      record {
        least = seat.0;
        most = seat.1;
        modes = long.0;
        octets = long.1;
        good = g;
        done = tick_0 desk ms os room s n m g;
      })
      (λ g. absurd (omega (arith, h, ap number (tick_2 desk ms os room s n m g)))))))
