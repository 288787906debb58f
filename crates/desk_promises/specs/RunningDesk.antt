-- The conference desk, of the running code: of whatever the contracts of `mixer::reset` and `mixer::tick` allow to be answered and left.
-- Assumes nothing.
use Rattle.std.specs.Prelude.{◌≡◌, refl, not, List, [], ◌∷◌, map, ℕ, ◌<◌, length, get_or, Result, Ok, Err}
use Rattle.std.proofs.Common.{sym, ap, subst, ◌∙◌}
use base.Stored.{Coded-set, coded_ℕ, coded_list}
use Rattle.std.specs.Borrow.{Bor, MutBor}
use denote.Signature.{type_at}
use Rattle.laws.specs.One.{Allows, Lifetimes, claims}
use Rattle.laws.specs.Outcome.{Does, does}
use Rattle.mixer.specs.contracts as mixer
use Rattle.coder.specs.contracts as coder
use Rattle.decoder.specs.contracts as decoder
use Rattle.conference.specs.Tick.{unseated, uneven, any_above, good_ports, not_ticked, ticked, tick_call}
use Rattle.conference.specs.Own.{TickInput, NoneRefused, sent_to, AllButFor, Eight}
use Rattle.conference.proofs.Own.{own_octets_unheard}
use Rattle.conference.specs.declared.Desk.{Desk}
use Rattle.conference.specs.Answers.{Ticked}
use Rattle.g722.specs.Answers.{answered}
use Rattle.g722.specs.declared.Accepted.{Accepted}
use Rattle.g722.specs.declared.Refusal.{Refusal}
use Rattle.g722.specs.declared.Refusal.TheVariants.{Mode, Record, Length, Ports}
use Rattle.promises.proofs.Said.{Said, Says, either}
use Rattle.promises.proofs.Made.{does_prop, answer_set, Made, MadeFrom, last_of, taken_of, lefts_of}
use Rattle.promises.proofs.MadeLaws.{made_as_one_run, made_left_as_one_run}
use Rattle.promises.proofs.Allowed.{allowed, all_made, lent, lent_out}
use Rattle.desk_promises.specs.DeskCalls.{ticking, desk_run, octets_run, ticking_runs}

-- a tick that was made: the lifetimes, the desk that it was handed and what was lent, what it answered, what it left
pub record Ticking : Type 0 where
  pub lifetimes : Lifetimes mixer.tick.ended
  pub given : Desk
  pub modes : Bor (List ℕ)
  pub octets : Bor (List ℕ)
  pub room : MutBor (List ℕ)
  pub answer : Result (Accepted Desk) Refusal
  pub left : List ℕ

-- that it was made with a desk, as the contract allows
abbrev pub Ticks : Desk → Ticking → Type 2
Ticks d k =
    (k.given ≡ d)
    × Allows mixer.tick.ended (λ M 𝓤. mixer.tick.clauses) k.lifetimes (k.given, (k.modes, (k.octets, (k.room, tt)))) k.answer
    (tt, (tt, (tt, (k.left, tt))))

-- what it answered: its number, its count and the next desk
abbrev pub tick_answer : Ticking → Ticked
tick_answer k = answered k.given k.answer

desks : IsSet Desk
desks a b p q =
    λ i j. record {
      ports = Coded-set coded_ℕ a.ports b.ports (λ k. (p k).ports) (λ k. (q k).ports) i j;
      coders =
          Coded-set (coded_list (type_at (coder.reset.ended).signature.result tt).coded) a.coders b.coders (λ k. (p k).coders)
          (λ k. (q k).coders) i j;
      decoders =
          Coded-set (coded_list (type_at (decoder.reset.ended).signature.result tt).coded) a.decoders b.decoders (λ k. (p k).decoders)
          (λ k. (q k).decoders) i j;
    }

pub did_tick : (d : Desk) (k : Ticking) → Ticks d k
    → Does (tick_call d k.modes.now k.octets.now k.room.now) (tick_answer k) k.left
did_tick d k p =
    let did = claims (does_prop (answer_set desks) (Coded-set (coded_list coded_ℕ))) p.1 (λ e. e) in
    does (ap (λ (s : Desk). tick_call s k.modes.now k.octets.now k.room.now) (sym p.0)) did.answer did.left

abbrev pub tick_input : Ticking → TickInput
tick_input k = record { modes = k.modes.now; octets = k.octets.now; room = k.room.now }

abbrev pub tickings : Made ticking
tickings =
    record { Call = Ticking; input = tick_input; answer = tick_answer; left = λ k. k.left; Allowed = Ticks; did = did_tick }

-- ---- THE THEOREMS of sequences: the desk and the octets of any ticks that were made

module _ (d : Desk) (ks : List Ticking) (m : MadeFrom tickings d ks) where
  pub running_desk : last_of tickings d ks ≡ desk_run d (taken_of tickings ks)
  running_desk = made_as_one_run tickings ticking_runs d ks m

  pub running_sent : lefts_of tickings ks ≡ octets_run d (taken_of tickings ks)
  running_sent = made_left_as_one_run tickings ticking_runs d ks m

-- ---- what a port is sent does not depend on its own octets

-- all were done
abbrev pub AllDone : List Ticking → Type 0
AllDone [] = Unit {0}
AllDone (k ∷ ks) = ((tick_answer k).number ≡ 0) × AllDone ks

-- the octets that port n was sent
abbrev pub sent_of : ℕ → List Ticking → List ℕ
sent_of n ks = map (λ (k : Ticking). get_or k.left n 0) ks

none_refused : (d : Desk) (ks : List Ticking) → MadeFrom tickings d ks → AllDone ks → NoneRefused d (map tick_input ks)
unfolding MadeFrom
none_refused d [] m a = tt
none_refused d (k ∷ ks) m a =
    let same = (did_tick d k m.0).answer in (
      sym (ap (λ x. x.number) same) ∙ a.0,
      subst (λ (x : Ticked). NoneRefused x.next (map tick_input ks)) same (none_refused (tick_answer k).next ks m.1 a.1),
    )

made_sent : (n : ℕ) (d : Desk) (ks : List Ticking) → MadeFrom tickings d ks → sent_of n ks ≡ sent_to n d (map tick_input ks)
unfolding MadeFrom sent_to
made_sent n d [] m = refl
made_sent n d (k ∷ ks) m =
    let did = did_tick d k m.0 in
    λ i. get_or (did.left i) n 0
    ∷ (made_sent n (tick_answer k).next ks m.1 ∙ ap (λ (a : Ticked). sent_to n a.next (map tick_input ks)) did.answer) i

-- THE THEOREM
pub running_own_unheard : (n : ℕ) (d : Desk) (ks js : List Ticking) → Eight d → n < d.ports
    → AllButFor n (map tick_input ks) (map tick_input js) → MadeFrom tickings d ks → MadeFrom tickings d js → AllDone ks → AllDone js
    → sent_of n ks ≡ sent_of n js
running_own_unheard n d ks js w h b m p a e =
    made_sent n d ks m
    ∙ own_octets_unheard n d (map tick_input ks) (map tick_input js) w h b (none_refused d ks m a) (none_refused d js p e)
    ∙ sym (made_sent n d js p)

-- ---- and any ticks can be made so

tick_said : (d : Desk) (i : TickInput) → Said d (ticking.call d i).answer
unfolding tick_call not_ticked ticked
tick_said d i =
    either (Says {B = List ℕ} d) (unseated d.ports) (record { result = Err Ports; says = refl })
    (either (Says {B = List ℕ} d) (uneven d.ports (length i.modes) (length i.octets) (length i.room))
    (record { result = Err Length; says = refl })
    (either (Says {B = List ℕ} d) (any_above i.modes) (record { result = Err Mode; says = refl })
    (either (Says {B = List ℕ} d) (not (good_ports d)) (record { result = Err Record; says = refl })
    (record { result = Ok _; says = refl }))))

make : Desk → TickInput → Ticking
make d i =
    record {
      lifetimes = ([], ([], ([], tt)));
      given = d;
      modes = lent i.modes;
      octets = lent i.octets;
      room = lent_out i.room;
      answer = (tick_said d i).result;
      left = (ticking.call d i).left;
    }

pub can_tick : (d : Desk) (is : List TickInput) → (ms : List Ticking) × MadeFrom tickings d ms × (map tickings.input ms ≡ is)
unfolding make lent lent_out
can_tick = all_made tickings (record { make = make; asked = λ d i. refl; may = λ d i. (refl, allowed (record { answer = (tick_said d i).says; left = refl })) })
