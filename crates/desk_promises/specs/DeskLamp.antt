-- What the counts of ticks mean, over any sequence of them, refused ones among them: together they are the number of sums in full that are
-- out of range, over the accepted ticks.
-- Assumes nothing.
use Rattle.std.specs.Prelude.{◌≡◌, List, ◌++◌}
use Rattle.std.proofs.Common.{sym, ap, ◌∙◌}
use Rattle.std.proofs.lemmas.Bool.{eqb-false}
use Rattle.g722.specs.Arithmetic.{overloads}
use Rattle.facts.specs.Overload.{overloads_append}
use Rattle.conference.specs.Sums.{sums_of}
use Rattle.conference.specs.Ports.{rls_from, rhs_from}
use Rattle.conference.specs.Tick.{sums_limited, tick_limited}
use Rattle.conference.proofs.Cases.{refused}
use Rattle.conference.specs.Own.{TickInput}
use Rattle.conference.specs.declared.Desk.{Desk}
use Rattle.promises.proofs.Through.{of_accepted}
use Rattle.promises.proofs.Lamp.{Counts, count_through, counts_add_up}
use Rattle.desk_promises.specs.DeskCalls.{ticking, outcome}

pub ticking_counts : Counts ticking
unfolding tick_limited sums_limited
ticking_counts =
    record {
      limited = λ a. a.limited;
      full = λ d i. sums_of (rls_from d.decoders i.modes i.octets) ++ sums_of (rhs_from d.decoders i.octets);
      counted = λ d i e. ap (λ o. o.answer.limited) (outcome d i e) ∙ sym (overloads_append _ _);
      dark = λ d i e. (refused d i.modes i.octets i.room (eqb-false _ _ e)).2;
    }

pub ticked_count : (desk : Desk) (is : List TickInput)
    → count_through ticking ticking_counts desk is
    ≡ overloads (of_accepted ticking
    (λ d i. sums_of (rls_from d.decoders i.modes i.octets) ++ sums_of (rhs_from d.decoders i.octets)) desk is)
unfolding ticking_counts
ticked_count desk is = counts_add_up ticking ticking_counts desk is
