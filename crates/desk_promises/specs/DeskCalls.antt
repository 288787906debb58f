-- Sequences of ticks of the conference desk, refused ones among them: the desk that they end with and the octets that they sent are those
-- of the accepted ticks alone, one after the other; and every one of them keeps a good desk good.
-- Assumes nothing.
use Rattle.std.specs.Prelude.{◌≡◌, refl, true, List, [], ◌∷◌, ◌++◌, ℕ}
use Rattle.std.proofs.Common.{sym, ap, ◌∙◌, append-nil, eqb-true}
use Rattle.std.proofs.lemmas.Bool.{eqb-false}
use Rattle.conference.specs.Tick.{octets_to, desk_after, tick_limited, tick_call}
use Rattle.conference.proofs.Cases.{refused, accepted}
use Rattle.conference.specs.Own.{TickInput}
use Rattle.conference.proofs.Good.{GoodDesk, desk_stays_good}
use Rattle.conference.specs.declared.Desk.{Desk}
use Rattle.conference.specs.Answers.{Ticked}
use Rattle.promises.proofs.Through.{Calls, Runs, through, taken, lefts, done, following}
use Rattle.promises.proofs.ThroughLaws.{as_one_run, left_as_one_run}

-- ticks that are all done
unfoldable pub desk_run : Desk → List TickInput → Desk
desk_run desk [] = desk
desk_run desk (i ∷ is) = desk_run (desk_after desk i.modes i.octets) is

unfoldable pub octets_run : Desk → List TickInput → List ℕ
octets_run desk [] = []
octets_run desk (i ∷ is) = octets_to desk i.modes i.octets ++ octets_run (desk_after desk i.modes i.octets) is

abbrev pub ticking : Calls
ticking =
    record {
      State = Desk;
      Input = TickInput;
      Answer = Ticked;
      Given = TickInput;
      Item = ℕ;
      call = λ d i. tick_call d i.modes i.octets i.room;
      number = λ a. a.number;
      next = λ a. a.next;
      given = λ i. i ∷ [];
      after = desk_run;
      out = octets_run;
    }

module _ (d : Desk) (i : TickInput) (e : done ticking d i ≡ true) where
  abbrev pub outcome : ticking.call d i
      ≡ record {
        answer = record {
          number = 0;
          index = 0;
          limited = tick_limited d i.modes i.octets;
          next = desk_after d i.modes i.octets;
        };
        left = octets_to d i.modes i.octets;
      }
  outcome = (accepted d i.modes i.octets i.room (eqb-true _ _ e)).done

pub ticking_runs : Runs ticking
unfolding desk_run octets_run
ticking_runs =
    record {
      after_none = λ d. refl;
      out_none = λ d. refl;
      refused = λ d i e. (refused d i.modes i.octets i.room (eqb-false _ _ e)).0;
      ran = λ d i e. ap (λ x. x.answer.next) (outcome d i e);
      left = λ d i e. ap (λ x. x.left) (outcome d i e) ∙ sym (append-nil (octets_to d i.modes i.octets));
      after_join = λ d i e rest. refl;
      out_join = λ d i e rest.
          ap (λ l. l ++ octets_run (desk_after d i.modes i.octets) rest) (sym (append-nil (octets_to d i.modes i.octets)));
    }

-- THE THEOREMS
module _ (d : Desk) (is : List TickInput) where
  pub ticks_as_one_run : through ticking d is ≡ desk_run d (taken ticking d is)
  ticks_as_one_run = as_one_run ticking ticking_runs d is

  pub sent_as_one_run : lefts ticking d is ≡ octets_run d (taken ticking d is)
  sent_as_one_run = left_as_one_run ticking ticking_runs d is

pub desk_always_good : (d : Desk) (is : List TickInput) → GoodDesk d → GoodDesk (through ticking d is)
unfolding through
desk_always_good d [] g = g
desk_always_good d (i ∷ is) g =
    desk_always_good (following ticking d i) is (desk_stays_good d i.modes i.octets i.room g)
