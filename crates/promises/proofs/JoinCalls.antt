-- Sequences of calls of decoding's second step, refused ones among them: each gives the samples and the record of one run over the pairs of
-- signals that its accepted calls were given.
-- Assumes nothing.
use Rattle.std.specs.Prelude.{◌≡◌, refl, List, ℤ}
use Rattle.std.proofs.Common.{sym, ap, ◌∙◌, eqb-true}
use Rattle.std.proofs.lemmas.Bool.{eqb-false}
use Rattle.g722.specs.Steps.{joined_in_full, joined_of, pairs_after, joined_after, joined, join_call}
use Rattle.g722.specs.declared.Decoder.{Decoder}
use Rattle.g722.specs.Answers.{Decoded}
use Rattle.promises.proofs.Accepted.{joined_paired, joined_run_lem}
use Rattle.promises.proofs.RefusedLaws.{join_beside}
use Rattle.promises.proofs.Through.{Calls, Runs, through, lefts, taken}
use Rattle.promises.proofs.ThroughLaws.{as_one_run, left_as_one_run}
use Rattle.promises.proofs.StepRuns.{Heard, paired, lows, highs, lows_paired, highs_paired, pairs_cut, joined_cut}

-- what a call is handed beside the record
pub record JoinInput : Type 0 where
  pub low : List ℤ
  pub high : List ℤ
  pub samples : List ℤ

abbrev pub joining : Calls
joining =
    record {
      State = Decoder;
      Input = JoinInput;
      Answer = Decoded;
      Given = Heard;
      Item = ℤ;
      call = λ d k. join_call d k.low k.high k.samples;
      number = λ a. a.number;
      next = λ a. a.next;
      given = λ k. paired k.low k.high;
      after = λ d hs. joined_after d (lows hs) (highs hs);
      out = λ d hs. joined_of d.past (lows hs) (highs hs);
    }

-- what an accepted call is, of its pairs
pub joins : (d : Decoder) (k : JoinInput) → (join_call d k.low k.high k.samples).answer.number ≡ 0
    → join_call d k.low k.high k.samples ≡ joined d (lows (joining.given k)) (highs (joining.given k))
joins d k h =
    let e = joined_paired d k.low k.high k.samples h in
    joined_run_lem d k.low k.high k.samples h
    ∙ (λ i. joined d (sym (lows_paired k.low k.high e) i) (sym (highs_paired k.low k.high e) i))

pub joining_runs : Runs joining
unfolding joined joined_after joined_in_full joined_of pairs_after
joining_runs =
    record {
      after_none = λ d. refl;
      out_none = λ d. refl;
      refused = λ d k e. ap (λ p. p.0) ((join_beside d k.low k.high k.samples).kept (eqb-false _ _ e));
      ran = λ d k e. ap (λ x. x.answer.next) (joins d k (eqb-true _ _ e));
      left = λ d k e. ap (λ x. x.left) (joins d k (eqb-true _ _ e));
      after_join = λ d k e rest i. record { low = d.low; high = d.high; past = pairs_cut d.past (joining.given k) rest i };
      out_join = λ d k e rest. joined_cut d.past (joining.given k) rest;
    }

-- the record that calls end with, the pairs of signals that accepted ones were given, and the samples that they left
abbrev pub join_through : Decoder → List JoinInput → Decoder
join_through = through joining

abbrev pub pairs_taken : Decoder → List JoinInput → List Heard
pairs_taken = taken joining

abbrev pub samples_joined : Decoder → List JoinInput → List ℤ
samples_joined = lefts joining

-- THE THEOREMS
module _ (d : Decoder) (ks : List JoinInput) where
  pub join_as_one_run : join_through d ks ≡ joined_after d (lows (pairs_taken d ks)) (highs (pairs_taken d ks))
  join_as_one_run = as_one_run joining joining_runs d ks

  pub joined_as_one_run : samples_joined d ks ≡ joined_of d.past (lows (pairs_taken d ks)) (highs (pairs_taken d ks))
  joined_as_one_run = left_as_one_run joining joining_runs d ks
