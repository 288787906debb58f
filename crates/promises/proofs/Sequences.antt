-- Sequences of calls at both ends, refused ones among them: each gives the octets, or the samples, and the record of one run
-- over what its accepted calls were given.
-- Assumes nothing.
use Rattle.std.specs.Prelude.{◌≡◌, refl, true, List, ℕ, ℤ, length}
use Rattle.std.proofs.Math.Path.{ap}
use Rattle.std.proofs.Common.{◌∙◌, eqb-true}
use Rattle.std.proofs.lemmas.Bool.{eqb-false}
use Rattle.g722.specs.Quantise.{in_force}
use Rattle.g722.specs.Records.{all_in_range}
use Rattle.g722.specs.Coding.{octets_of, coder_after, coded, code_call}
use Rattle.g722.specs.Decoding.{decoded, decode_call}
use Rattle.g722.specs.declared.Coder.{Coder}
use Rattle.g722.specs.Answers.{Coded, Decoded}
use Rattle.g722.specs.declared.Decoder.{Decoder}
use Rattle.facts.specs.Lengths.{twice}
use Rattle.facts.specs.CodedRuns.{Pairs, pairs, coder_join, octets_join}
use Rattle.facts.specs.Range.{run_in_range}
use Rattle.facts.specs.Told.{Told, decoder_run, full_run, samples_run, marked, decoder_run_lem, samples_run_lem, decoder_join, samples_join}
use Rattle.promises.proofs.Accepted.{coded_fits, coded_run_lem, decoded_run}
use Rattle.promises.proofs.RefusedLaws.{code_beside, decode_beside}
use Rattle.promises.proofs.Through.{Calls, Runs, through, lefts, taken}
use Rattle.promises.proofs.ThroughLaws.{as_one_run, left_as_one_run}

-- ---- coding

-- what a coding call is handed beside the record
pub record CodeInput : Type 0 where
  pub samples : List ℤ
  pub octets : List ℕ

abbrev pub coding : Calls
coding =
    record {
      State = Coder;
      Input = CodeInput;
      Answer = Coded;
      Given = ℤ;
      Item = ℕ;
      call = λ c k. code_call c k.samples k.octets;
      number = λ a. a.number;
      next = λ a. a.next;
      given = λ k. k.samples;
      after = coder_after;
      out = octets_of;
    }

pub whole : (c : Coder) (k : CodeInput) → (code_call c k.samples k.octets).answer.number ≡ 0 → Pairs k.samples
whole c k h = pairs k.samples (length k.octets) (twice _ _ (coded_fits c k.samples k.octets h))

pub coding_runs : Runs coding
unfolding coded coder_after octets_of
coding_runs =
    record {
      after_none = λ c. refl;
      out_none = λ c. refl;
      refused = λ c k e. ap (λ p. p.0) ((code_beside c k.samples k.octets).kept (eqb-false _ _ e));
      ran = λ c k e. ap (λ o. o.answer.next) (coded_run_lem c k.samples k.octets (eqb-true _ _ e));
      left = λ c k e. ap (λ o. o.left) (coded_run_lem c k.samples k.octets (eqb-true _ _ e));
      after_join = λ c k e rest. coder_join c rest (whole c k (eqb-true _ _ e));
      out_join = λ c k e rest. octets_join c rest (whole c k (eqb-true _ _ e));
    }

-- the record that calls end with, the octets that the accepted ones left, and the samples that they were given
abbrev pub coder_through : Coder → List CodeInput → Coder
coder_through = through coding

abbrev pub octets_through : Coder → List CodeInput → List ℕ
octets_through = lefts coding

abbrev pub samples_taken : Coder → List CodeInput → List ℤ
samples_taken = taken coding

-- THE THEOREMS, of coding
pub coder_as_one_run : (c : Coder) (ks : List CodeInput) → coder_through c ks ≡ coder_after c (samples_taken c ks)
coder_as_one_run = as_one_run coding coding_runs

pub octets_as_one_run : (c : Coder) (ks : List CodeInput) → octets_through c ks ≡ octets_of c (samples_taken c ks)
octets_as_one_run = left_as_one_run coding coding_runs

-- ---- decoding

-- what a decoding call is handed beside the record
pub record DecodeInput : Type 0 where
  pub told : ℕ
  pub octets : List ℕ
  pub samples : List ℤ

abbrev pub decoding : Calls
decoding =
    record {
      State = Decoder;
      Input = DecodeInput;
      Answer = Decoded;
      Given = Told;
      Item = ℤ;
      call = λ d k. decode_call d k.told k.octets k.samples;
      number = λ a. a.number;
      next = λ a. a.next;
      given = λ k. marked (in_force k.told) k.octets;
      after = decoder_run;
      out = samples_run;
    }

module _ (d : Decoder) (k : DecodeInput) (h : (decode_call d k.told k.octets k.samples).answer.number ≡ 0) where
  heard_record : (decode_call d k.told k.octets k.samples).answer.next ≡ decoder_run d (marked (in_force k.told) k.octets)
  unfolding decoded
  heard_record =
      ap (λ o. o.answer.next) (decoded_run d k.told k.octets k.samples h) ∙ decoder_run_lem (in_force k.told) d k.octets

  heard_samples : (decode_call d k.told k.octets k.samples).left ≡ samples_run d (marked (in_force k.told) k.octets)
  unfolding decoded
  heard_samples = ap (λ o. o.left) (decoded_run d k.told k.octets k.samples h) ∙ samples_run_lem (in_force k.told) d k.octets

pub decoding_runs : Runs decoding
unfolding decoder_run full_run samples_run
decoding_runs =
    record {
      after_none = λ d. refl;
      out_none = λ d. refl;
      refused = λ d k e. ap (λ p. p.0) ((decode_beside d k.told k.octets k.samples).kept (eqb-false _ _ e));
      ran = λ d k e. heard_record d k (eqb-true _ _ e);
      left = λ d k e. heard_samples d k (eqb-true _ _ e);
      after_join = λ d k e rest. decoder_join d (marked (in_force k.told) k.octets) rest;
      out_join = λ d k e rest. samples_join d (marked (in_force k.told) k.octets) rest;
    }

-- the record that calls end with, the samples that the accepted ones left, and the octets that they were given, with their modes
abbrev pub decoder_through : Decoder → List DecodeInput → Decoder
decoder_through = through decoding

abbrev pub samples_through : Decoder → List DecodeInput → List ℤ
samples_through = lefts decoding

abbrev pub octets_taken : Decoder → List DecodeInput → List Told
octets_taken = taken decoding

-- THE THEOREMS, of decoding
pub decoder_as_one_run : (d : Decoder) (ks : List DecodeInput) → decoder_through d ks ≡ decoder_run d (octets_taken d ks)
decoder_as_one_run = as_one_run decoding decoding_runs

pub samples_as_one_run : (d : Decoder) (ks : List DecodeInput) → samples_through d ks ≡ samples_run d (octets_taken d ks)
samples_as_one_run = left_as_one_run decoding decoding_runs

-- every sample that they left is in range
pub samples_in_range : (d : Decoder) (ks : List DecodeInput) → all_in_range (samples_through d ks) ≡ true
samples_in_range d ks = rw (samples_as_one_run d ks) (run_in_range d (octets_taken d ks))
