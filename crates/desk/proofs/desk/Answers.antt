-- `desk::desk` meets its contract: a desk that is not refused has 2 to 8 ports.
use Rattle.std.proofs.Common.{◌≡◌, ℕ, ◌<◌, ◌≤◌, false, arith, sym, ap, ◌∙◌, Ok, Err}
use Rattle.std.specs.Result.{IfOk, IsErrAnd, MatchResult}
use Rattle.std.specs.declared.result.Result.{Result}
use mathlib.Core.Bool.{cond}
use Rattle.laws.specs.Order.{by_test}
use Rattle.conference.specs.declared.Desk.{Desk}
use Rattle.conference.specs.declared.RefusedReset.{RefusedReset}
use Rattle.conference.specs.Answers.{Ticked, reset_as}
use Rattle.conference.specs.Tick.{unseated, reset_call, reset_desk}
use Rattle.conference.proofs.Cases.{seated}
use Rattle.desk.proofs.desk.Goals as goal

-- 9 is not 0
not-refused : (n : ℕ) → (reset_call n).number ≡ 0 → unseated n ≡ false
unfolding reset_call
not-refused n e = by_test (unseated n) (λ t. absurd (omega (arith, sym (ap (λ b. cond b 9 0) t) ∙ e))) (λ t. t)

-- a desk that is not refused has 2 to 8 ports
seats : (n : ℕ) → (reset_call n).number ≡ 0 → (0 < (reset_call n).next.ports) × ((reset_call n).next.ports ≤ 8)
unfolding reset_call reset_desk
seats n e = let s = seated n (not-refused n e) in (omega (arith, s.0), s.1)

-- and so has the one that is handed on, whatever is made of a refusal
handed : {E : Type 0} (Q : RefusedReset → E → Type 0) (n : ℕ) (r : Result Desk RefusedReset) (m : Result Desk E)
    → reset_as r ≡ reset_call n → MatchResult r (λ desk. m ≡ Ok desk) (λ reset. IsErrAnd m (Q reset))
    → IfOk m (λ desk. (0 < desk.ports) × (desk.ports ≤ 8))
handed Q n (Ok desk) m e h =
    let s = seats n (sym (ap (λ (a : Ticked). a.number) e)) in
    rw (h, ap (λ (a : Ticked). a.next.ports) e) s
handed Q n (Err reset) (Err x) e h = tt
handed Q n (Err reset) (Ok _) e h = elim h [ ]

pub returns : goal.returns
returns g c = handed _ c.in_ok-told.field-0 c.reset.result c.map_err.result c.reset.ensures c.map_err.ensures.cases
