-- Demand 2 for a host that keeps bytes: whatever calls it makes, refused ones among them, from reset or from any bytes that hold a
-- record, its octets or sample bytes are those of one run, and its state is the bytes of that run's record.
-- Assumes nothing.
use Rattle.std.specs.Prelude.{◌≡◌, List, ℕ, eqb, ℤ}
use Rattle.std.proofs.Common.{sym, subst, ◌∙◌}
use Rattle.std.proofs.Math.Path.{ap}
use Rattle.std.proofs.lemmas.Bool.{eqb-false}
use Rattle.laws.specs.Order.{by_test}
use Rattle.laws.specs.Outcome.{Outcome}
use Rattle.g722.specs.Records.{reset_coder, reset_decoder}
use Rattle.g722.specs.Coding.{octets_of, coder_after}
use Rattle.g722.specs.declared.Coder.{Coder}
use Rattle.g722.specs.declared.Decoder.{Decoder}
use Rattle.facts.specs.Fits.{CoderFits, DecoderFits, coder_reset_fits, decoder_reset_fits}
use Rattle.facts.specs.Told.{Told, decoder_run, samples_run}
use Rattle.big_endian.specs.Bytes.{pcm_bytes}
use Rattle.pcm.specs.Chunks.{encode_chunk, decode_chunk}
use Rattle.state.specs.Layout.{coder_bytes, coder_in, decoder_bytes, decoder_in}
use Rattle.state.proofs.Round.{Holds, coder_back, coder_bytes_back, coder_in_fits, decoder_back, decoder_bytes_back, decoder_in_fits}
use Rattle.state.specs.Reset.{reset_bytes}
use Rattle.state.proofs.Reset.{coder_reset_bytes, decoder_reset_bytes}
use Rattle.host.specs.Answer.{number_in}
use Rattle.host.specs.Calls.{after_coding, code_bytes, after_decoding, decode_bytes}
use Rattle.promises.proofs.Through.{Calls, through, taken, lefts}
use Rattle.host_promises.specs.Streams.{EncodeInput, StoreInput}
use Rattle.host_promises.proofs.ChunksRefused.{encode_chunk_beside, decode_chunk_beside}
use Rattle.host_promises.proofs.Streams.{encoding, encoding_runs, storing, storing_runs}
use Rattle.host_promises.proofs.Fitting.{encode_stays_fitting, store_stays_fitting}
use Rattle.host_promises.proofs.Packed.{code_parts, decode_parts}
use Rattle.host_promises.proofs.Kept.{Keeps, kept, kept_as_one_run, kept_left_as_one_run}

-- what a host has after a call: the word that it answered, and the state
pub record Returned : Type 0 where
  pub word : ℕ
  pub state : List ℕ

abbrev pub returned : Outcome ℕ (List ℕ × List ℕ) → Outcome Returned (List ℕ)
returned x = record { answer = record { word = x.answer; state = x.left.0 }; left = x.left.1 }

-- ---- coding

module _ (c : Coder) (k : EncodeInput) (f : CoderFits c) where
  pub code_number : number_in (code_bytes (coder_bytes c) k.bytes k.octets).answer
      ≡ (encode_chunk c k.bytes k.octets).answer.number
  code_number =
      (code_parts (coder_bytes c) k.bytes k.octets).number
      ∙ ap (λ (t : Coder). (encode_chunk t k.bytes k.octets).answer.number) (coder_back c f)

  pub code_left : (code_bytes (coder_bytes c) k.bytes k.octets).left.1 ≡ (encode_chunk c k.bytes k.octets).left
  unfolding code_bytes after_coding
  code_left = ap (λ (t : Coder). (encode_chunk t k.bytes k.octets).left) (coder_back c f)

  pub code_next : (code_bytes (coder_bytes c) k.bytes k.octets).left.0 ≡ coder_bytes (encode_chunk c k.bytes k.octets).answer.next
  unfolding code_bytes after_coding
  code_next =
      rw (coder_back c f) (by_test (eqb (encode_chunk c k.bytes k.octets).answer.number 0)
      (λ e. rw e)
      (λ e. rw e (ap (λ p. coder_bytes p.0) (sym ((encode_chunk_beside c k.bytes k.octets).kept (eqb-false _ _ e))))))

abbrev pub code_keeps : Keeps encoding
code_keeps =
    record {
      Kept = List ℕ;
      Answer = Returned;
      call = λ s k. returned (code_bytes s k.bytes k.octets);
      number = λ a. number_in a.word;
      next = λ a. a.state;
      form = coder_bytes;
      read = coder_in;
      Fits = CoderFits;
      same_number = code_number;
      same_left = code_left;
      same_next = code_next;
      stays = λ c k f. encode_stays_fitting c k.bytes k.octets f;
    }

-- the host's coding calls; what they send, and the samples that the accepted ones were given
abbrev pub host_coding : Calls
host_coding = kept code_keeps

abbrev pub host_sent : List ℕ → List EncodeInput → List ℕ
host_sent = lefts host_coding

abbrev pub host_spoken : List ℕ → List EncodeInput → List ℤ
host_spoken = taken host_coding

-- THE THEOREMS, of coding: from any bytes that hold a record ..
module _ (state : List ℕ) (h : Holds 1 state) (ks : List EncodeInput) where
  pub host_octets_as_one_run : host_sent state ks ≡ octets_of (coder_in state) (host_spoken state ks)
  host_octets_as_one_run =
      subst (λ (s : List ℕ). host_sent s ks ≡ octets_of (coder_in state) (host_spoken s ks)) (coder_bytes_back state h)
      (kept_left_as_one_run code_keeps encoding_runs (coder_in state) ks (coder_in_fits state h))

  pub host_coder_as_one_run : through host_coding state ks ≡ coder_bytes (coder_after (coder_in state) (host_spoken state ks))
  host_coder_as_one_run =
      subst (λ (s : List ℕ). through host_coding s ks ≡ coder_bytes (coder_after (coder_in state) (host_spoken s ks)))
      (coder_bytes_back state h)
      (kept_as_one_run code_keeps encoding_runs (coder_in state) ks (coder_in_fits state h))

-- .. and from the reset bytes
module _ (ks : List EncodeInput) where
  pub host_octets_from_reset : host_sent (reset_bytes 1) ks ≡ octets_of reset_coder (host_spoken (reset_bytes 1) ks)
  host_octets_from_reset =
      subst (λ (s : List ℕ). host_sent s ks ≡ octets_of reset_coder (host_spoken s ks)) coder_reset_bytes
      (kept_left_as_one_run code_keeps encoding_runs reset_coder ks coder_reset_fits)

  pub host_coder_from_reset : through host_coding (reset_bytes 1) ks ≡ coder_bytes (coder_after reset_coder (host_spoken (reset_bytes 1) ks))
  host_coder_from_reset =
      subst (λ (s : List ℕ). through host_coding s ks ≡ coder_bytes (coder_after reset_coder (host_spoken s ks))) coder_reset_bytes
      (kept_as_one_run code_keeps encoding_runs reset_coder ks coder_reset_fits)

-- ---- decoding

module _ (d : Decoder) (k : StoreInput) (f : DecoderFits d) where
  pub decode_number : number_in (decode_bytes (decoder_bytes d) k.told k.octets k.bytes).answer
      ≡ (decode_chunk d k.told k.octets k.bytes).answer.number
  decode_number =
      (decode_parts (decoder_bytes d) k.told k.octets k.bytes).number
      ∙ ap (λ (t : Decoder). (decode_chunk t k.told k.octets k.bytes).answer.number) (decoder_back d f)

  pub decode_left : (decode_bytes (decoder_bytes d) k.told k.octets k.bytes).left.1
      ≡ (decode_chunk d k.told k.octets k.bytes).left
  unfolding decode_bytes after_decoding
  decode_left = ap (λ (t : Decoder). (decode_chunk t k.told k.octets k.bytes).left) (decoder_back d f)

  pub decode_next : (decode_bytes (decoder_bytes d) k.told k.octets k.bytes).left.0
      ≡ decoder_bytes (decode_chunk d k.told k.octets k.bytes).answer.next
  unfolding decode_bytes after_decoding
  decode_next =
      rw (decoder_back d f) (by_test (eqb (decode_chunk d k.told k.octets k.bytes).answer.number 0)
      (λ e. rw e)
      (λ e. rw e (ap (λ p. decoder_bytes p.0)
      (sym ((decode_chunk_beside d k.told k.octets k.bytes).kept (eqb-false _ _ e))))))

abbrev pub decode_keeps : Keeps storing
decode_keeps =
    record {
      Kept = List ℕ;
      Answer = Returned;
      call = λ s k. returned (decode_bytes s k.told k.octets k.bytes);
      number = λ a. number_in a.word;
      next = λ a. a.state;
      form = decoder_bytes;
      read = decoder_in;
      Fits = DecoderFits;
      same_number = decode_number;
      same_left = decode_left;
      same_next = decode_next;
      stays = λ d k f. store_stays_fitting d k.told k.octets k.bytes f;
    }

-- the host's decoding calls; the sample bytes that they leave, and the octets that the accepted ones were given, with their modes
abbrev pub host_decoding : Calls
host_decoding = kept decode_keeps

abbrev pub host_heard : List ℕ → List StoreInput → List ℕ
host_heard = lefts host_decoding

abbrev pub host_came : List ℕ → List StoreInput → List Told
host_came = taken host_decoding

-- THE THEOREMS, of decoding: from any bytes that hold a record ..
module _ (state : List ℕ) (h : Holds 2 state) (ks : List StoreInput) where
  pub host_samples_as_one_run : host_heard state ks ≡ pcm_bytes (samples_run (decoder_in state) (host_came state ks))
  host_samples_as_one_run =
      subst (λ (s : List ℕ). host_heard s ks ≡ pcm_bytes (samples_run (decoder_in state) (host_came s ks))) (decoder_bytes_back state h)
      (kept_left_as_one_run decode_keeps storing_runs (decoder_in state) ks (decoder_in_fits state h))

  pub host_decoder_as_one_run : through host_decoding state ks ≡ decoder_bytes (decoder_run (decoder_in state) (host_came state ks))
  host_decoder_as_one_run =
      subst (λ (s : List ℕ). through host_decoding s ks ≡ decoder_bytes (decoder_run (decoder_in state) (host_came s ks)))
      (decoder_bytes_back state h)
      (kept_as_one_run decode_keeps storing_runs (decoder_in state) ks (decoder_in_fits state h))

-- .. and from the reset bytes
module _ (ks : List StoreInput) where
  pub host_samples_from_reset : host_heard (reset_bytes 2) ks ≡ pcm_bytes (samples_run reset_decoder (host_came (reset_bytes 2) ks))
  host_samples_from_reset =
      subst (λ (s : List ℕ). host_heard s ks ≡ pcm_bytes (samples_run reset_decoder (host_came s ks))) decoder_reset_bytes
      (kept_left_as_one_run decode_keeps storing_runs reset_decoder ks decoder_reset_fits)

  pub host_decoder_from_reset : through host_decoding (reset_bytes 2) ks
      ≡ decoder_bytes (decoder_run reset_decoder (host_came (reset_bytes 2) ks))
  host_decoder_from_reset =
      subst (λ (s : List ℕ). through host_decoding s ks ≡ decoder_bytes (decoder_run reset_decoder (host_came s ks))) decoder_reset_bytes
      (kept_as_one_run decode_keeps storing_runs reset_decoder ks decoder_reset_fits)
