-- Sequences of calls of decoding's first step, refused ones among them and modes changing between them: each gives the low signals, the
-- high signals and the record of one run over the octets that its accepted calls were given.
-- Assumes nothing.
use Rattle.std.specs.Prelude.{◌≡◌, refl, ℕ, ℤ, length}
use Rattle.std.proofs.Math.Path.{sym, ap}
use Rattle.std.proofs.Common.{◌∙◌, eqb-true}
use mathlib.Core.List.{List, zip_with}
use Rattle.std.proofs.lemmas.Bool.{eqb-false}
use Rattle.std.proofs.lemmas.List.{length-map}
use Rattle.laws.specs.Outcome.{Outcome}
use Rattle.g722.specs.Quantise.{in_force}
use Rattle.g722.specs.Steps.{signals_of, band_after, rhs_of, heard_after, heard, hear_call}
use Rattle.g722.specs.declared.Decoder.{Decoder}
use Rattle.g722.specs.Answers.{Decoded}
use Rattle.facts.specs.Signals.{signals_length, rhs_length}
use Rattle.facts.specs.Told.{Told, marked}
use Rattle.promises.proofs.Accepted.{heard_run_lem}
use Rattle.promises.proofs.RefusedLaws.{hear_beside}
use Rattle.promises.proofs.Through.{Calls, Runs, through, of_accepted, taken}
use Rattle.promises.proofs.ThroughLaws.{as_one_run, of_as_one_run}
use Rattle.promises.proofs.StepRuns.{received, lows_run, rls_run, received_marked, rls_marked, low_run, high_run}
use Rattle.promises.proofs.StepRuns.{heard_cut, low_cut, high_cut}
use Rattle.promises.proofs.StepRuns.{Heard, paired, paired_cut}

-- what a call is handed beside the record
pub record HearInput : Type 0 where
  pub told : ℕ
  pub octets : List ℕ
  pub low : List ℤ
  pub high : List ℤ

abbrev pub hears : Decoder → HearInput → Outcome Decoded (List ℤ × List ℤ)
hears d k = hear_call d k.told k.octets k.low k.high

abbrev pub hearing : Calls
hearing =
    record {
      State = Decoder;
      Input = HearInput;
      Answer = Decoded;
      Given = Told;
      Item = Heard;
      call = λ d k. record { answer = (hears d k).answer; left = paired (hears d k).left.0 (hears d k).left.1 };
      number = λ a. a.number;
      next = λ a. a.next;
      given = λ k. marked (in_force k.told) k.octets;
      after = λ d ts. heard_after d (received ts);
      out = λ d ts. paired (low_run d ts) (high_run d ts);
    }

-- as many of each band over a run
run_paired : (d : Decoder) (ts : List Told) → length (high_run d ts) ≡ length (low_run d ts)
unfolding rls_run lows_run
run_paired d ts = rhs_length d.high (received ts) ∙ length-map ts _ ∙ sym (signals_length _ _ d.low ts)

module _ (d : Decoder) (k : HearInput) (h : (hears d k).answer.number ≡ 0) where
  heard_record : (hears d k).answer.next ≡ heard_after d (received (hearing.given k))
  unfolding heard
  heard_record =
      ap (λ x. x.answer.next) (heard_run_lem d k.told k.octets k.low k.high h)
      ∙ ap (heard_after d) (sym (received_marked (in_force k.told) k.octets))

  pub heard_low : (hears d k).left.0 ≡ low_run d (hearing.given k)
  unfolding heard
  heard_low =
      ap (λ x. x.left.0) (heard_run_lem d k.told k.octets k.low k.high h)
      ∙ sym (rls_marked (in_force k.told) d.low k.octets)

  pub heard_high : (hears d k).left.1 ≡ high_run d (hearing.given k)
  unfolding heard
  heard_high =
      ap (λ x. x.left.1) (heard_run_lem d k.told k.octets k.low k.high h)
      ∙ ap (rhs_of d.high) (sym (received_marked (in_force k.told) k.octets))

pub hearing_runs : Runs hearing
unfolding heard_after band_after rls_run lows_run signals_of zip_with
hearing_runs =
    record {
      after_none = λ d. refl;
      out_none = λ d. refl;
      refused = λ d k e. ap (λ p. p.0) ((hear_beside d k.told k.octets k.low k.high).kept (eqb-false _ _ e));
      ran = λ d k e. heard_record d k (eqb-true _ _ e);
      left = λ d k e i. paired (heard_low d k (eqb-true _ _ e) i) (heard_high d k (eqb-true _ _ e) i);
      after_join = λ d k e rest. heard_cut d (hearing.given k) rest;
      out_join = λ d k e rest.
          (λ i. paired (low_cut d (hearing.given k) rest i) (high_cut d (hearing.given k) rest i))
          ∙ paired_cut (low_run d (hearing.given k)) _ (high_run d (hearing.given k)) _ (run_paired d (hearing.given k));
    }

-- the record that calls end with, the octets that accepted ones were given, with their modes, and the signals that they left
abbrev pub hear_through : Decoder → List HearInput → Decoder
hear_through = through hearing

abbrev pub octets_heard : Decoder → List HearInput → List Told
octets_heard = taken hearing

abbrev pub low_through : Decoder → List HearInput → List ℤ
low_through = of_accepted hearing (λ d k. (hears d k).left.0)

abbrev pub high_through : Decoder → List HearInput → List ℤ
high_through = of_accepted hearing (λ d k. (hears d k).left.1)

-- THE THEOREMS: the modes reach neither the record nor the high signals
module _ (d : Decoder) (ks : List HearInput) where
  pub hear_as_one_run : hear_through d ks ≡ heard_after d (received (octets_heard d ks))
  hear_as_one_run = as_one_run hearing hearing_runs d ks

  pub low_as_one_run : low_through d ks ≡ rls_run d.low (octets_heard d ks)
  unfolding rls_run lows_run signals_of
  low_as_one_run =
      of_as_one_run hearing hearing_runs (λ c k. (hears c k).left.0) low_run (λ c. refl) (λ c k e. heard_low c k (eqb-true _ _ e))
      (λ c k e rest. low_cut c (hearing.given k) rest) d ks

  pub high_as_one_run : high_through d ks ≡ rhs_of d.high (received (octets_heard d ks))
  unfolding rhs_of signals_of
  high_as_one_run =
      of_as_one_run hearing hearing_runs (λ c k. (hears c k).left.1) high_run (λ c. refl) (λ c k e. heard_high c k (eqb-true _ _ e))
      (λ c k e rest. high_cut c (hearing.given k) rest) d ks
