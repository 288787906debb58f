-- Good in, good out, of calls: every call gives a good record back for a good one, so that no caller is ever refused the record
-- that it was handed.
-- Assumes nothing.
use Rattle.std.specs.Prelude.{◌≡◌, Bool, true, List, [], ◌∷◌, ℕ, eqb, ℤ}
use Rattle.std.proofs.Common.{ap, eqb-true}
use Rattle.std.proofs.lemmas.Bool.{eqb-false}
use Rattle.laws.specs.Order.{by_test}
use Rattle.facts.specs.Range.{all_clean}
use Rattle.facts.specs.Good.{coder_run_good, decoder_run_good}
use Rattle.facts.specs.Signals.{pairs_clean, heard_good, joined_good}
use Rattle.g722.specs.Quantise.{in_force}
use Rattle.g722.specs.Records.{good_coder, good_decoder}
use Rattle.g722.specs.Coding.{coded, code_call}
use Rattle.g722.specs.Decoding.{decoded, decode_call}
use Rattle.g722.specs.Steps.{heard, hear_call, joined, join_call}
use Rattle.g722.specs.declared.Coder.{Coder}
use Rattle.g722.specs.declared.Decoder.{Decoder}
use Rattle.promises.proofs.Accepted.{coded_clean, coded_run_lem, decoded_run, heard_run_lem, joined_paired, joined_clean, joined_run_lem}
use Rattle.promises.proofs.RefusedLaws.{code_beside, decode_beside, hear_beside, join_beside}
use Rattle.promises.proofs.Through.{Calls, following, through}
use Rattle.promises.proofs.Sequences.{CodeInput, coding, coder_through, DecodeInput, decoding, decoder_through}
use Rattle.promises.proofs.HearCalls.{HearInput, hearing, hear_through}
use Rattle.promises.proofs.JoinCalls.{JoinInput, joining, join_through}
use Rattle.promises.proofs.StepGiven.{StepInput, hear, join}
use Rattle.promises.proofs.StepOrder.{stepping}

-- a record that is good after an accepted call, and given back by a refused one
by_number : {X : Type 0} (good : X → Bool) (number : ℕ) (next came : X) → (number ≡ 0 → good next ≡ true)
    → ((number ≡ 0 → ⊥) → next ≡ came) → good came ≡ true → good next ≡ true
by_number good number next came f kept g =
    by_test (eqb number 0) (λ e. f (eqb-true _ _ e)) (λ e. rw (kept (eqb-false _ _ e)) g)

-- what every call keeps, any sequence of calls keeps
always : (C : Calls) (good : C.State → Bool) → ((s : C.State) (k : C.Input) → good s ≡ true → good (following C s k) ≡ true)
    → (s : C.State) (ks : List C.Input) → good s ≡ true → good (through C s ks) ≡ true
unfolding through
always C good each s [] g = g
always C good each s (k ∷ ks) g = always C good each (following C s k) ks (each s k g)

-- THE THEOREMS: every call, refused or not, gives a good record back for a good one, and so does any sequence of calls.
-- Coding ..
pub coder_stays_good : (c : Coder) (s : List ℤ) (o : List ℕ) → good_coder c ≡ true → good_coder (code_call c s o).answer.next ≡ true
unfolding coded
coder_stays_good c s o g =
    by_number good_coder _ _ c
    (λ h. rw (coded_run_lem c s o h) (coder_run_good c s g (all_clean s (coded_clean c s o h))))
    (λ h. ap (λ p. p.0) ((code_beside c s o).kept h)) g

pub coder_always_good : (c : Coder) (ks : List CodeInput) → good_coder c ≡ true → good_coder (coder_through c ks) ≡ true
coder_always_good = always coding good_coder (λ c k. coder_stays_good c k.samples k.octets)

-- .. decoding ..
pub decoder_stays_good : (d : Decoder) (told : ℕ) (o : List ℕ) (s : List ℤ)
    → good_decoder d ≡ true → good_decoder (decode_call d told o s).answer.next ≡ true
unfolding decoded
decoder_stays_good d told o s g =
    by_number good_decoder _ _ d
    (λ h. rw (decoded_run d told o s h) (decoder_run_good (in_force told) d o g))
    (λ h. ap (λ p. p.0) ((decode_beside d told o s).kept h)) g

pub decoder_always_good : (d : Decoder) (ks : List DecodeInput) → good_decoder d ≡ true → good_decoder (decoder_through d ks) ≡ true
decoder_always_good = always decoding good_decoder (λ d k. decoder_stays_good d k.told k.octets k.samples)

-- .. and each of its steps
pub hear_stays_good : (d : Decoder) (told : ℕ) (o : List ℕ) (low high : List ℤ)
    → good_decoder d ≡ true → good_decoder (hear_call d told o low high).answer.next ≡ true
unfolding heard
hear_stays_good d told o low high g =
    by_number good_decoder _ _ d
    (λ h. rw (heard_run_lem d told o low high h) (heard_good d o g))
    (λ h. ap (λ p. p.0) ((hear_beside d told o low high).kept h)) g

pub hear_always_good : (d : Decoder) (ks : List HearInput) → good_decoder d ≡ true → good_decoder (hear_through d ks) ≡ true
hear_always_good = always hearing good_decoder (λ d k. hear_stays_good d k.told k.octets k.low k.high)

pub join_stays_good : (d : Decoder) (low high s : List ℤ) → good_decoder d ≡ true → good_decoder (join_call d low high s).answer.next ≡ true
unfolding joined
join_stays_good d low high s g =
    by_number good_decoder _ _ d
    (λ h. let clean = pairs_clean low high (joined_paired d low high s h) (joined_clean d low high s h) in
    rw (joined_run_lem d low high s h) (joined_good d low high g clean.0 clean.1))
    (λ h. ap (λ p. p.0) ((join_beside d low high s).kept h)) g

pub join_always_good : (d : Decoder) (ks : List JoinInput) → good_decoder d ≡ true → good_decoder (join_through d ks) ≡ true
join_always_good = always joining good_decoder (λ d k. join_stays_good d k.low k.high k.samples)

-- also in any order
step_stays_good : (d : Decoder) (k : StepInput) → good_decoder d ≡ true → good_decoder (following stepping d k) ≡ true
step_stays_good d (hear k) g = hear_stays_good d k.told k.octets k.low k.high g
step_stays_good d (join k) g = join_stays_good d k.low k.high k.samples g

pub steps_always_good : (d : Decoder) (ks : List StepInput) → good_decoder d ≡ true → good_decoder (through stepping d ks) ≡ true
steps_always_good = always stepping good_decoder step_stays_good
