-- Demands 2 and 3 of the running code: of any calls that were made as `Running` has them.
-- Assumes nothing.
use Rattle.std.specs.Prelude.{◌≡◌, List, map, ℕ, ◌*◌, ℤ, length, take}
use Rattle.std.proofs.Common.{sym, ap}
use base.Stored.{Coded-set, coded_ℕ, coded_ℤ, coded_list}
use denote.Signature.{type_at}
use Rattle.laws.specs.One.{claims}
use Rattle.laws.specs.Outcome.{Does, does}
use Rattle.coder.specs.contracts as coder
use Rattle.decoder.specs.contracts as decoder
use Rattle.g722.specs.Records.{reset_coder, reset_decoder}
use Rattle.g722.specs.Coding.{octets_of, coder_after, code_call}
use Rattle.g722.specs.Decoding.{decode_call}
use Rattle.facts.specs.Upper.{upper_six}
use Rattle.g722.specs.declared.Coder.{Coder}
use Rattle.g722.specs.declared.Decoder.{Decoder}
use Rattle.facts.specs.Told.{Told, decoder_run, samples_run}
use Rattle.promises.proofs.Running.{Reset_coder, Reset_decoder, Coding, Decoding, Codes, Decodes, coding_answer, decoding_answer}
use Rattle.promises.proofs.Sequences.{coding, coding_runs, decoding, decoding_runs}
use Rattle.promises.proofs.StepRuns.{received}
use Rattle.promises.proofs.SameBands.{SameBands}
use Rattle.promises.proofs.Ends.{AsSent, same_after, same_behind, same_at_end, reset_same}
use Rattle.promises.proofs.Made.{does_prop, answer_set, Made, MadeFrom, last_of, taken_of, lefts_of}
use Rattle.promises.proofs.MadeLaws.{made_as_one_run, made_left_as_one_run}

-- ---- a call that was made did what the definitions give

pub coders : IsSet Coder
coders = Coded-set (type_at (coder.reset.ended).signature.result tt).coded

pub decoders : IsSet Decoder
decoders = Coded-set (type_at (decoder.reset.ended).signature.result tt).coded

pub did_reset_coder : (c : Coder) → Reset_coder c → c ≡ reset_coder
did_reset_coder c p = claims (coders c reset_coder) p (λ e. e)

pub did_reset_decoder : (d : Decoder) → Reset_decoder d → d ≡ reset_decoder
did_reset_decoder d p = claims (decoders d reset_decoder) p (λ e. e)

pub did_code : (c : Coder) (k : Coding) → Codes c k → Does (code_call c k.samples.now k.octets.now) (coding_answer k) k.left
did_code c k p =
    let did = claims (does_prop (answer_set coders) (Coded-set (coded_list coded_ℕ))) p.1 (λ e. e) in
    does (ap (λ (s : Coder). code_call s k.samples.now k.octets.now) (sym p.0)) did.answer did.left

pub did_decode : (d : Decoder) (k : Decoding) → Decodes d k
    → Does (decode_call d k.told k.octets.now k.samples.now) (decoding_answer k) k.left
did_decode d k p =
    let did = claims (does_prop (answer_set decoders) (Coded-set (coded_list coded_ℤ))) p.1 (λ e. e) in
    does (ap (λ (s : Decoder). decode_call s k.told k.octets.now k.samples.now) (sym p.0)) did.answer did.left

abbrev pub codings : Made coding
codings =
    record {
      Call = Coding;
      input = λ k. record { samples = k.samples.now; octets = k.octets.now };
      answer = coding_answer;
      left = λ k. k.left;
      Allowed = Codes;
      did = did_code;
    }

abbrev pub decodings : Made decoding
decodings =
    record {
      Call = Decoding;
      input = λ k. record { told = k.told; octets = k.octets.now; samples = k.samples.now };
      answer = decoding_answer;
      left = λ k. k.left;
      Allowed = Decodes;
      did = did_decode;
    }

-- the octets that accepted calls left, and the samples that they were given
abbrev pub sent : List Coding → List ℕ
sent = lefts_of codings

abbrev pub spoken : List Coding → List ℤ
spoken = taken_of codings

-- the octets that accepted calls were given, with their modes, and the samples that they left
abbrev pub came : List Decoding → List Told
came = taken_of decodings

abbrev pub heard : List Decoding → List ℤ
heard = lefts_of decodings

-- ---- THE THEOREMS of demand 2: octets, samples and records of any calls that were made

module _ (c : Coder) (ks : List Coding) (m : MadeFrom codings c ks) where
  pub running_octets : sent ks ≡ octets_of c (spoken ks)
  running_octets = made_left_as_one_run codings coding_runs c ks m

  pub running_coder : last_of codings c ks ≡ coder_after c (spoken ks)
  running_coder = made_as_one_run codings coding_runs c ks m

module _ (d : Decoder) (ks : List Decoding) (m : MadeFrom decodings d ks) where
  pub running_samples : heard ks ≡ samples_run d (came ks)
  running_samples = made_left_as_one_run decodings decoding_runs d ks m

  pub running_decoder : last_of decodings d ks ≡ decoder_run d (came ks)
  running_decoder = made_as_one_run decodings decoding_runs d ks m

-- ---- THE THEOREMS of demand 3

same_reset : {c : Coder} {d : Decoder} → Reset_coder c → Reset_decoder d → SameBands c d
same_reset {c} {d} p q = rw (did_reset_coder c p, did_reset_decoder d q) reset_same

module _ (c : Coder) (d : Decoder) (p : Reset_coder c) (q : Reset_decoder d)
    (ks : List Coding) (ds : List Decoding) (m : MadeFrom codings c ks) (w : MadeFrom decodings d ds) where
  -- after the n-th octet, for every n up to which they came as they were sent, inside a call too
  pub running_ends_equal : (n : ℕ) → AsSent n (sent ks) (came ds)
      → SameBands (coder_after c (take (2 * n) (spoken ks))) (decoder_run d (take n (came ds)))
  running_ends_equal n e = same_after n c d (spoken ks) (came ds) (same_reset {c = c} {d = d} p q) (rw (running_octets c ks m) at e)

  -- the record that the decoder answered, while it is behind what was sent
  pub running_behind : AsSent (length (came ds)) (sent ks) (came ds)
      → SameBands (coder_after c (take (2 * length (came ds)) (spoken ks))) (last_of decodings d ds)
  running_behind e =
      rw (running_decoder d ds w) (same_behind c d (spoken ks) (came ds) (same_reset {c = c} {d = d} p q) (rw (running_octets c ks m) at e))

  -- the records that both answered, where all that was sent has come
  pub running_records_equal : map upper_six (sent ks) ≡ map upper_six (received (came ds))
      → SameBands (last_of codings c ks) (last_of decodings d ds)
  running_records_equal e =
      rw (running_coder c ks m, running_decoder d ds w) (same_at_end c d (spoken ks) (came ds) (same_reset {c = c} {d = d} p q) (rw (running_octets c ks m) at e))
