-- Calls of both steps of decoding in any order, refused ones among them. Bands and signals go by the octets that were heard, past pairs and
-- samples by the pairs of signals that were joined, whatever was called between; and where what was joined is what was heard, in order, it
-- is one run of the decoder, however either step was cut into calls.
-- Assumes nothing.
use Rattle.std.specs.Prelude.{◌≡◌, refl, true, false, List, [], ◌++◌, ℤ}
use Rattle.std.proofs.Common.{sym, ◌∙◌, eqb-true}
use Rattle.g722.specs.Steps.{signals_of, band_after, rhs_of, heard_after, joined_in_full, joined_of, pairs_after, joined_after}
use Rattle.g722.specs.declared.Decoder.{Decoder}
use Rattle.g722.specs.Answers.{Decoded}
use Rattle.facts.specs.Told.{Told, decoder_run, samples_run}
use Rattle.promises.proofs.Through.{Calls, Runs, done, following, through, of_accepted, lefts, taken}
use Rattle.promises.proofs.ThroughLaws.{as_one_run, left_as_one_run, of_as_one_run}
use Rattle.promises.proofs.StepRuns.{received, lows_run, rls_run, low_run, high_run, heard_cut, low_cut, high_cut}
use Rattle.promises.proofs.StepRuns.{Heard, lows, highs, pairs_cut, joined_cut, decodes}
use Rattle.promises.proofs.HearCalls.{hears, hearing, hearing_runs, heard_low, heard_high}
use Rattle.promises.proofs.JoinCalls.{joining, joining_runs}
use Rattle.promises.proofs.StepGiven.{StepInput, hear, join, StepGiven, octets_in, pairs_in, either, step_given}
use Rattle.promises.proofs.StepGiven.{octets_only, pairs_only, sorted}

-- the answer of a call, and what it leaves of low signals, of high ones and of samples
abbrev pub step_answer : Decoder → StepInput → Decoded
step_answer d = either (λ k. (hearing.call d k).answer) (λ k. (joining.call d k).answer)

abbrev pub low_left : Decoder → StepInput → List ℤ
low_left d = either (λ k. (hears d k).left.0) (λ k. [])

abbrev pub high_left : Decoder → StepInput → List ℤ
high_left d = either (λ k. (hears d k).left.1) (λ k. [])

abbrev pub samples_left : Decoder → StepInput → List ℤ
samples_left d = either (λ k. []) (λ k. (joining.call d k).left)

-- the record after octets and pairs
abbrev pub steps_after : Decoder → List StepGiven → Decoder
steps_after d gs = joined_after (heard_after d (received (octets_in gs))) (lows (pairs_in gs)) (highs (pairs_in gs))

abbrev pub stepping : Calls
stepping =
    record {
      State = Decoder;
      Input = StepInput;
      Answer = Decoded;
      Given = StepGiven;
      Item = ℤ;
      call = λ d k. record { answer = step_answer d k; left = samples_left d k };
      number = λ a. a.number;
      next = λ a. a.next;
      given = step_given;
      after = steps_after;
      out = λ d gs. joined_of d.past (lows (pairs_in gs)) (highs (pairs_in gs));
    }

-- ---- one call

refused_back : (d : Decoder) (k : StepInput) → done stepping d k ≡ false → following stepping d k ≡ d
refused_back d (hear k) e = hearing_runs.refused d k e
refused_back d (join k) e = joining_runs.refused d k e

went : (d : Decoder) (k : StepInput) → done stepping d k ≡ true → following stepping d k ≡ steps_after d (step_given k)
unfolding heard_after band_after joined_after pairs_after
went d (hear k) e =
    let sort = octets_only (hearing.given k) in
    hearing_runs.ran d k e
    ∙ (λ i. joined_after (heard_after d (received (sym sort.0 i))) (lows (sym sort.1 i)) (highs (sym sort.1 i)))
went d (join k) e =
    let sort = pairs_only (joining.given k) in
    joining_runs.ran d k e
    ∙ (λ i. joined_after (heard_after d (received (sym sort.0 i))) (lows (sym sort.1 i)) (highs (sym sort.1 i)))

samples_one : (d : Decoder) (k : StepInput) → done stepping d k ≡ true
    → samples_left d k ≡ joined_of d.past (lows (pairs_in (step_given k))) (highs (pairs_in (step_given k)))
unfolding joined_in_full joined_of
samples_one d (hear k) e = rw (octets_only (hearing.given k)).1
samples_one d (join k) e = rw (pairs_only (joining.given k)).1 (joining_runs.left d k e)

low_one : (d : Decoder) (k : StepInput) → done stepping d k ≡ true → low_left d k ≡ low_run d (octets_in (step_given k))
unfolding rls_run lows_run signals_of
low_one d (hear k) e = rw (octets_only (hearing.given k)).0 (heard_low d k (eqb-true _ _ e))
low_one d (join k) e = rw (pairs_only (joining.given k)).0

high_one : (d : Decoder) (k : StepInput) → done stepping d k ≡ true → high_left d k ≡ high_run d (octets_in (step_given k))
unfolding rhs_of signals_of
high_one d (hear k) e = rw (octets_only (hearing.given k)).0 (heard_high d k (eqb-true _ _ e))
high_one d (join k) e = rw (pairs_only (joining.given k)).0

-- ---- cut in two

module _ (d : Decoder) (gs rest : List StepGiven) where
  after_cut : steps_after d (gs ++ rest) ≡ steps_after (steps_after d gs) rest
  unfolding heard_after joined_after
  after_cut =
      rw ((sorted gs rest).0, (sorted gs rest).1) (λ i. record {
        low = (heard_cut d (octets_in gs) (octets_in rest) i).low;
        high = (heard_cut d (octets_in gs) (octets_in rest) i).high;
        past = pairs_cut d.past (pairs_in gs) (pairs_in rest) i;
      })

  samples_cut : joined_of d.past (lows (pairs_in (gs ++ rest))) (highs (pairs_in (gs ++ rest)))
      ≡ joined_of d.past (lows (pairs_in gs)) (highs (pairs_in gs))
      ++ joined_of (steps_after d gs).past (lows (pairs_in rest)) (highs (pairs_in rest))
  unfolding heard_after joined_after
  samples_cut = rw (sorted gs rest).1 (joined_cut d.past (pairs_in gs) (pairs_in rest))

  lows_cut : low_run d (octets_in (gs ++ rest)) ≡ low_run d (octets_in gs) ++ low_run (steps_after d gs) (octets_in rest)
  unfolding joined_after
  lows_cut = rw (sorted gs rest).0 (low_cut d (octets_in gs) (octets_in rest))

  highs_cut : high_run d (octets_in (gs ++ rest)) ≡ high_run d (octets_in gs) ++ high_run (steps_after d gs) (octets_in rest)
  unfolding joined_after
  highs_cut = rw (sorted gs rest).0 (high_cut d (octets_in gs) (octets_in rest))

pub stepping_runs : Runs stepping
unfolding octets_in pairs_in heard_after band_after joined_after pairs_after joined_in_full joined_of
stepping_runs =
    record {
      after_none = λ d. refl;
      out_none = λ d. refl;
      refused = refused_back;
      ran = went;
      left = samples_one;
      after_join = λ d k e rest. after_cut d (step_given k) rest;
      out_join = λ d k e rest. samples_cut d (step_given k) rest;
    }

module _ (d : Decoder) (ks : List StepInput) where
  -- the octets that accepted calls of the first step were given, with their modes, and the pairs that those of the second were given
  abbrev pub octets_stepped : List Told
  octets_stepped = octets_in (taken stepping d ks)

  abbrev pub pairs_stepped : List Heard
  pairs_stepped = pairs_in (taken stepping d ks)

  -- THE THEOREMS: the record, the low signals, the high ones and the samples
  pub steps_record : through stepping d ks
      ≡ joined_after (heard_after d (received octets_stepped)) (lows pairs_stepped) (highs pairs_stepped)
  steps_record = as_one_run stepping stepping_runs d ks

  pub steps_low : of_accepted stepping low_left d ks ≡ rls_run d.low octets_stepped
  unfolding octets_in rls_run lows_run signals_of
  steps_low =
      of_as_one_run stepping stepping_runs low_left (λ c gs. low_run c (octets_in gs)) (λ c. refl) low_one
      (λ c k e rest. lows_cut c (step_given k) rest) d ks

  pub steps_high : of_accepted stepping high_left d ks ≡ rhs_of d.high (received octets_stepped)
  unfolding octets_in rhs_of signals_of
  steps_high =
      of_as_one_run stepping stepping_runs high_left (λ c gs. high_run c (octets_in gs)) (λ c. refl) high_one
      (λ c k e rest. highs_cut c (step_given k) rest) d ks

  pub steps_samples : lefts stepping d ks ≡ joined_of d.past (lows pairs_stepped) (highs pairs_stepped)
  steps_samples = left_as_one_run stepping stepping_runs d ks

  -- and where what was joined is what was heard, in order, it is decoding: one run of the decoder over the octets
  module _ (l : lows pairs_stepped ≡ of_accepted stepping low_left d ks) (h : highs pairs_stepped ≡ of_accepted stepping high_left d ks) where
    pub steps_decode : (through stepping d ks ≡ decoder_run d octets_stepped) × (lefts stepping d ks ≡ samples_run d octets_stepped)
    steps_decode =
        let same = decodes d octets_stepped (lows pairs_stepped) (highs pairs_stepped) (l ∙ steps_low) (h ∙ steps_high) in
        (steps_record ∙ same.0, steps_samples ∙ same.1)
