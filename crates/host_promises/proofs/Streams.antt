-- Sequences of chunks: whatever chunks a stream is handed over in, refused ones among them, it is one run at each end.
-- Assumes nothing.
use Rattle.std.specs.Prelude.{◌≡◌, refl, true, ◌||◌, not, List, ◌++◌, ℕ, ◌*◌, ltb, ℤ}
use Rattle.std.proofs.Common.{sym, ◌∙◌}
use Rattle.std.proofs.Math.Path.{ap}
use Rattle.std.proofs.lemmas.Bool.{eqb-false}
use Rattle.std.proofs.Math.Dec.{eqb}
use Rattle.std.proofs.Math.ListN.{length}
use Rattle.laws.specs.Order.{by_test, no}
use Rattle.g722.specs.Quantise.{in_force}
use Rattle.g722.specs.Records.{good_decoder}
use Rattle.g722.specs.Coding.{octets_of, coder_after, not_coded, code_call}
use Rattle.g722.specs.Decoding.{decoded}
use Rattle.big_endian.specs.Bytes.{pcm_samples, pcm_bytes, bytes_join}
use Rattle.pcm.specs.Chunks.{encode_chunk, not_stored, as_bytes, decode_chunk}
use Rattle.g722.specs.declared.Coder.{Coder}
use Rattle.g722.specs.Answers.{Coded, Decoded}
use Rattle.g722.specs.declared.Decoder.{Decoder}
use Rattle.facts.specs.Told.{Told, decoder_run, full_run, samples_run, marked, decoder_run_lem, samples_run_lem, decoder_join, samples_join}
use Rattle.promises.proofs.Through.{Calls, Runs, done, through, taken, lefts}
use Rattle.promises.proofs.ThroughLaws.{as_one_run, left_as_one_run}
use Rattle.promises.proofs.Sequences.{CodeInput, coding, coding_runs}
use Rattle.host_promises.specs.Streams.{EncodeInput, StoreInput}
use Rattle.host_promises.proofs.ChunksRefused.{encode_chunk_beside, decode_chunk_beside}

-- ---- coding

abbrev pub encoding : Calls
encoding =
    record {
      State = Coder;
      Input = EncodeInput;
      Answer = Coded;
      Given = ℤ;
      Item = ℕ;
      call = λ c k. encode_chunk c k.bytes k.octets;
      number = λ a. a.number;
      next = λ a. a.next;
      given = λ k. pcm_samples k.bytes;
      after = coder_after;
      out = octets_of;
    }

-- the coding call that an accepted chunk is
as_call : EncodeInput → CodeInput
as_call k = record { samples = pcm_samples k.bytes; octets = k.octets }

module _ (c : Coder) (k : EncodeInput) (e : done encoding c k ≡ true) where
  fills : eqb (length k.bytes) (4 * length k.octets) ≡ true
  unfolding encode_chunk not_coded
  fills =
      by_test (eqb (length k.bytes) (4 * length k.octets)) (λ f. f) (λ f. no (sym (rw f at e)))

  is_call : encode_chunk c k.bytes k.octets ≡ code_call c (pcm_samples k.bytes) k.octets
  unfolding encode_chunk
  is_call = rw fills

  call_done : done coding c (as_call k) ≡ true
  unfolding as_call
  call_done = ap (λ x. eqb x.answer.number 0) (sym is_call) ∙ e

pub encoding_runs : Runs encoding
unfolding as_call
encoding_runs =
    record {
      after_none = coding_runs.after_none;
      out_none = coding_runs.out_none;
      refused = λ c k e. ap (λ p. p.0) ((encode_chunk_beside c k.bytes k.octets).kept (eqb-false _ _ e));
      ran = λ c k e. ap (λ x. x.answer.next) (is_call c k e) ∙ coding_runs.ran c (as_call k) (call_done c k e);
      left = λ c k e. ap (λ x. x.left) (is_call c k e) ∙ coding_runs.left c (as_call k) (call_done c k e);
      after_join = λ c k e. coding_runs.after_join c (as_call k) (call_done c k e);
      out_join = λ c k e. coding_runs.out_join c (as_call k) (call_done c k e);
    }

-- THE THEOREMS, of coding
pub chunk_coder_as_one_run : (c : Coder) (ks : List EncodeInput) → through encoding c ks ≡ coder_after c (taken encoding c ks)
chunk_coder_as_one_run = as_one_run encoding encoding_runs

pub chunk_octets_as_one_run : (c : Coder) (ks : List EncodeInput) → lefts encoding c ks ≡ octets_of c (taken encoding c ks)
chunk_octets_as_one_run = left_as_one_run encoding encoding_runs

-- ---- decoding

abbrev pub storing : Calls
storing =
    record {
      State = Decoder;
      Input = StoreInput;
      Answer = Decoded;
      Given = Told;
      Item = ℕ;
      call = λ d k. decode_chunk d k.told k.octets k.bytes;
      number = λ a. a.number;
      next = λ a. a.next;
      given = λ k. marked (in_force k.told) k.octets;
      after = decoder_run;
      out = λ d ts. pcm_bytes (samples_run d ts);
    }

run_bytes_join : (d : Decoder) (ts rest : List Told)
    → pcm_bytes (samples_run d (ts ++ rest)) ≡ pcm_bytes (samples_run d ts) ++ pcm_bytes (samples_run (decoder_run d ts) rest)
run_bytes_join d ts rest = ap pcm_bytes (samples_join d ts rest) ∙ bytes_join (samples_run d ts) (samples_run (decoder_run d ts) rest)

-- what an accepted chunk is
stored : (d : Decoder) (k : StoreInput) → done storing d k ≡ true
    → decode_chunk d k.told k.octets k.bytes ≡ as_bytes (decoded (in_force k.told) d k.octets)
unfolding decode_chunk not_stored
stored d k e =
    by_test (ltb 3 k.told) (λ f. no (sym (rw f at e))) (λ f.
    by_test (ltb 8000 (length k.octets) || not (eqb (length k.bytes) (4 * length k.octets)))
    (λ g. no (sym (rw (f, g) at e))) (λ g.
    by_test (good_decoder d) (λ h. rw (f, g, h)) (λ h. no (sym (rw (f, g, h) at e)))))

pub storing_runs : Runs storing
unfolding decoder_run full_run samples_run pcm_bytes as_bytes decoded
storing_runs =
    record {
      after_none = λ d. refl;
      out_none = λ d. refl;
      refused = λ d k e. ap (λ p. p.0) ((decode_chunk_beside d k.told k.octets k.bytes).kept (eqb-false _ _ e));
      ran = λ d k e. ap (λ x. x.answer.next) (stored d k e) ∙ decoder_run_lem (in_force k.told) d k.octets;
      left = λ d k e. ap (λ x. x.left) (stored d k e) ∙ ap pcm_bytes (samples_run_lem (in_force k.told) d k.octets);
      after_join = λ d k e rest. decoder_join d (marked (in_force k.told) k.octets) rest;
      out_join = λ d k e rest. run_bytes_join d (marked (in_force k.told) k.octets) rest;
    }

-- THE THEOREMS, of decoding
pub chunk_decoder_as_one_run : (d : Decoder) (ks : List StoreInput) → through storing d ks ≡ decoder_run d (taken storing d ks)
chunk_decoder_as_one_run = as_one_run storing storing_runs

pub chunk_bytes_as_one_run : (d : Decoder) (ks : List StoreInput) → lefts storing d ks ≡ pcm_bytes (samples_run d (taken storing d ks))
chunk_bytes_as_one_run = left_as_one_run storing storing_runs
