-- Cue bits reach neither signal of the first step of decoding.
-- Assumes nothing.
use Rattle.std.specs.Prelude.{◌≡◌, refl, List, ℕ, ◌+◌, ltb, ℤ}
use Rattle.std.proofs.Math.Path.{sym, ap}
use Rattle.std.proofs.Common.{◌∙◌, arith}
use Rattle.std.proofs.Math.ListN.{length, length-map}
use Rattle.laws.specs.Order.{by_test}
use Rattle.g722.specs.Arithmetic.{overloads}
use Rattle.g722.specs.Quantise.{in_force}
use Rattle.g722.specs.Records.{good_decoder}
use Rattle.g722.specs.Steps.{unpaired, not_heard, heard, hear_call}
use Rattle.g722.specs.declared.Decoder.{Decoder}
use Rattle.promises.proofs.Through.{answers}
use Rattle.promises.proofs.StepRuns.{paired}
use Rattle.promises.proofs.HearCalls.{HearInput, hears, hearing, hear_through, low_through, high_through}
use Rattle.promises.proofs.Alike.{Each, answers_alike, state_alike, of_alike}
use Rattle.promises.proofs.Unheard.{Alike}
use Rattle.promises.proofs.UnheardCall.{counted_same, heard_same}
use Rattle.promises.proofs.UnheardSignals.{AlikeHear}

-- THE THEOREM, of a call: the same number, index, count and next record, and the same signals if it is accepted
module _ (d : Decoder) (told : ℕ) (os rs : List ℕ) (x y u v : List ℤ)
    (a : Alike (in_force told) os rs) (l : length x ≡ length u) (m : length y ≡ length v) where
  pub hear_unheard : ((hear_call d told os x y).answer ≡ (hear_call d told rs u v).answer)
      × ((hear_call d told os x y).answer.number ≡ 0 → (hear_call d told os x y).left ≡ (hear_call d told rs u v).left)
  unfolding hear_call not_heard heard
  hear_unheard =
      let n : length os ≡ length rs = sym (length-map os _) ∙ ap length a ∙ length-map rs _ in
      let same = heard_same (in_force told) d os rs a in
      let full = counted_same (in_force told) d os rs a in
      by_test (ltb 3 told) (λ e. rw e (refl, λ h. absurd (omega (arith, h)))) (λ e.
      by_test (unpaired (length rs) (length u) (length v)) (λ f. rw (e, l, m, n, f) (refl, λ h. absurd (omega (arith, h)))) (λ f.
      by_test (good_decoder d)
      (λ g. rw (e, l, m, n, f, g) (
        λ i. record { number = 0; index = 0; limited = overloads (full.0 i) + overloads (full.1 i); next = same.2 i },
        λ h i. (same.0 i, same.1 i),
      ))
      (λ g. rw (e, l, m, n, f, g) (refl, λ h. absurd (omega (arith, h))))))

pub same_call : (d : Decoder) (k j : HearInput) → AlikeHear k j
    → ((hears d k).answer ≡ (hears d j).answer) × ((hears d k).answer.number ≡ 0 → (hears d k).left ≡ (hears d j).left)
same_call d k j a =
    rw (← a.told) (hear_unheard d k.told k.octets j.octets k.low k.high j.low j.high a.octets a.low a.high)

same_pairs : (d : Decoder) (k j : HearInput) → AlikeHear k j
    → ((hearing.call d k).answer ≡ (hearing.call d j).answer)
    × ((hears d k).answer.number ≡ 0 → (hearing.call d k).left ≡ (hearing.call d j).left)
same_pairs d k j a = let e = same_call d k j a in (e.0, λ h. ap (λ p. paired p.0 p.1) (e.1 h))

-- THE THEOREMS, of any sequence of calls, also where the mode changes between calls and where some are refused
module _ (d : Decoder) {ks js : List HearInput} (a : Each AlikeHear ks js) where
  pub hear_answers_unheard : answers hearing d ks ≡ answers hearing d js
  hear_answers_unheard = answers_alike hearing AlikeHear same_pairs d a

  pub hear_record_unheard : hear_through d ks ≡ hear_through d js
  hear_record_unheard = state_alike hearing AlikeHear same_pairs d a

  pub low_unheard : low_through d ks ≡ low_through d js
  low_unheard =
      of_alike hearing AlikeHear same_pairs (λ c k. (hears c k).left.0) (λ c k j e h. ap (λ p. p.0) ((same_call c k j e).1 h)) d a

  pub high_unheard : high_through d ks ≡ high_through d js
  high_unheard =
      of_alike hearing AlikeHear same_pairs (λ c k. (hears c k).left.1) (λ c k j e h. ap (λ p. p.1) ((same_call c k j e).1 h)) d a
