-- Demands 2 and 3 of the running code that a host calls: of whatever the contracts of `zelcandry_code` and `zelcandry_decode` allow to be
-- answered and left, where each call is lent the state that the one before left. They are the contracts that Rattle made of the
-- functions' own clauses (`Allows`), and none is written out here.
-- Assumes nothing.
use Rattle.std.specs.Prelude.{◌≡◌, List, map, ℕ, ◌*◌, ℤ, length, take}
use Rattle.std.proofs.Common.{sym, ◌∙◌}
use base.Stored.{Coded-set, coded_ℕ, coded_list, coded×}
use Rattle.std.specs.Borrow.{Bor, MutBor}
use denote.Signature.{type_at}
use Rattle.laws.specs.One.{Allows, Lifetimes, claims}
use Rattle.laws.specs.Outcome.{Does}
use Rattle.host.specs.contracts as host
use Rattle.g722.specs.Records.{reset_coder, reset_decoder}
use Rattle.g722.specs.Coding.{octets_of, coder_after}
use Rattle.facts.specs.Told.{Told, decoder_run, samples_run}
use Rattle.facts.specs.Upper.{upper_six}
use Rattle.big_endian.specs.Bytes.{pcm_bytes}
use Rattle.state.specs.Layout.{coder_bytes, coder_in, decoder_bytes, decoder_in}
use Rattle.state.proofs.Round.{Holds}
use Rattle.state.specs.Reset.{reset_bytes}
use Rattle.host.specs.Calls.{code_bytes, decode_bytes}
use Rattle.promises.proofs.Made.{does_prop, Made, MadeFrom, last_of, taken_of, lefts_of}
use Rattle.promises.proofs.MadeLaws.{made_record, made_answers, made_taken, made_left}
use Rattle.promises.proofs.StepRuns.{received}
use Rattle.promises.proofs.Ends.{AsSent}
use Rattle.promises.proofs.Alike.{Each}
use Rattle.host_promises.specs.HostEnds.{bands}
use Rattle.host_promises.proofs.HostCalls.{Returned, returned, host_coding, host_octets_as_one_run, host_coder_as_one_run}
use Rattle.host_promises.proofs.HostCalls.{host_decoding, host_samples_as_one_run, host_decoder_as_one_run}
use Rattle.host_promises.proofs.HostEnds.{host_ends_equal, host_state_behind, host_states_equal}
use Rattle.host_promises.proofs.HostUnheard.{AlikeInput, host_answers_unheard, host_samples_unheard, host_state_unheard}

-- ---- what the contracts allow

-- a call that a host made: the lifetimes and what was lent, the state first; the word and the state that it then had, and what was left
pub record HostCode : Type 0 where
  pub lifetimes : Lifetimes host.zelcandry_code.ended
  pub state : MutBor (List ℕ)
  pub samples : Bor (List ℕ)
  pub octets : MutBor (List ℕ)
  pub answer : Returned
  pub left : List ℕ

pub record HostDecode : Type 0 where
  pub lifetimes : Lifetimes host.zelcandry_decode.ended
  pub state : MutBor (List ℕ)
  pub told : ℕ
  pub octets : Bor (List ℕ)
  pub samples : MutBor (List ℕ)
  pub answer : Returned
  pub left : List ℕ

-- that its contract allows it, where these bytes were lent as the state
abbrev pub HostCodes : List ℕ → HostCode → Type 2
HostCodes s k =
    (k.state.now ≡ s)
    × Allows host.zelcandry_code.ended (λ M 𝓤. host.zelcandry_code.clauses) k.lifetimes (k.state, (k.samples, (k.octets, tt)))
    k.answer.word (k.answer.state, (tt, (k.left, tt)))

abbrev pub HostDecodes : List ℕ → HostDecode → Type 2
HostDecodes s k =
    (k.state.now ≡ s)
    × Allows host.zelcandry_decode.ended (λ M 𝓤. host.zelcandry_decode.clauses) k.lifetimes
    (k.state, (k.told, (k.octets, (k.samples, tt)))) k.answer.word (k.answer.state, (tt, (tt, (k.left, tt))))

-- ---- and that it is what the definitions give

pub host_did_code : (s : List ℕ) (k : HostCode) → HostCodes s k
    → Does (returned (code_bytes s k.samples.now k.octets.now)) k.answer k.left
host_did_code s k p =
    let words = Coded-set (type_at (host.zelcandry_code.ended).signature.result k.lifetimes).coded in
    let lent = Coded-set (coded× (coded_list coded_ℕ) (coded_list coded_ℕ)) in
    let did : Does (code_bytes k.state.now k.samples.now k.octets.now) k.answer.word (k.answer.state, k.left) =
    claims (does_prop words lent) p.1 (λ e. e) in
    rw (← p.0) (record { answer = λ i. record { word = did.answer i; state = (did.left i).0 }; left = λ i. (did.left i).1 })

pub host_did_decode : (s : List ℕ) (k : HostDecode) → HostDecodes s k
    → Does (returned (decode_bytes s k.told k.octets.now k.samples.now)) k.answer k.left
host_did_decode s k p =
    let words = Coded-set (type_at (host.zelcandry_decode.ended).signature.result k.lifetimes).coded in
    let lent = Coded-set (coded× (coded_list coded_ℕ) (coded_list coded_ℕ)) in
    let did : Does (decode_bytes k.state.now k.told k.octets.now k.samples.now) k.answer.word
    (k.answer.state, k.left) =
    claims (does_prop words lent) p.1 (λ e. e) in
    rw (← p.0) (record { answer = λ i. record { word = did.answer i; state = (did.left i).0 }; left = λ i. (did.left i).1 })

abbrev pub host_codes : Made host_coding
host_codes =
    record {
      Call = HostCode;
      input = λ k. record { bytes = k.samples.now; octets = k.octets.now };
      answer = λ k. k.answer;
      left = λ k. k.left;
      Allowed = HostCodes;
      did = host_did_code;
    }

abbrev pub host_decodes : Made host_decoding
host_decodes =
    record {
      Call = HostDecode;
      input = λ k. record { told = k.told; octets = k.octets.now; bytes = k.samples.now };
      answer = λ k. k.answer;
      left = λ k. k.left;
      Allowed = HostDecodes;
      did = host_did_decode;
    }

-- the octets that accepted calls left, and the samples that they were given
abbrev pub sent_by : List HostCode → List ℕ
sent_by = lefts_of host_codes

abbrev pub spoken_to : List HostCode → List ℤ
spoken_to = taken_of host_codes

-- the octets that accepted calls were given, with their modes, and the sample bytes that they left
abbrev pub came_to : List HostDecode → List Told
came_to = taken_of host_decodes

abbrev pub heard_from : List HostDecode → List ℕ
heard_from = lefts_of host_decodes

-- ---- THE THEOREMS of demand 2, from any bytes that hold a record

module _ (state : List ℕ) (h : Holds 1 state) (ks : List HostCode) (m : MadeFrom host_codes state ks) where
  pub running_host_octets : sent_by ks ≡ octets_of (coder_in state) (spoken_to ks)
  running_host_octets =
      rw (made_taken host_codes state ks m) (made_left host_codes state ks m ∙ host_octets_as_one_run state h (map host_codes.input ks))

  pub running_host_coder : last_of host_codes state ks ≡ coder_bytes (coder_after (coder_in state) (spoken_to ks))
  running_host_coder =
      rw (made_taken host_codes state ks m) (made_record host_codes state ks m ∙ host_coder_as_one_run state h (map host_codes.input ks))

module _ (state : List ℕ) (h : Holds 2 state) (ks : List HostDecode) (m : MadeFrom host_decodes state ks) where
  pub running_host_samples : heard_from ks ≡ pcm_bytes (samples_run (decoder_in state) (came_to ks))
  running_host_samples =
      rw (made_taken host_decodes state ks m)
      (made_left host_decodes state ks m ∙ host_samples_as_one_run state h (map host_decodes.input ks))

  pub running_host_decoder : last_of host_decodes state ks ≡ decoder_bytes (decoder_run (decoder_in state) (came_to ks))
  running_host_decoder =
      rw (made_taken host_decodes state ks m)
      (made_record host_decodes state ks m ∙ host_decoder_as_one_run state h (map host_decodes.input ks))

-- ---- THE THEOREMS of demand 3, from the reset bytes

module _ (ks : List HostCode) (ds : List HostDecode) (m : MadeFrom host_codes (reset_bytes 1) ks)
    (w : MadeFrom host_decodes (reset_bytes 2) ds) where
  -- after the n-th octet, for every n up to which they came as they were sent, inside a call too
  pub running_host_ends_equal : (n : ℕ) → AsSent n (sent_by ks) (came_to ds)
      → bands (coder_bytes (coder_after reset_coder (take (2 * n) (spoken_to ks))))
      ≡ bands (decoder_bytes (decoder_run reset_decoder (take n (came_to ds))))
  running_host_ends_equal n e =
      rw (made_taken host_codes (reset_bytes 1) ks m)
      (host_ends_equal (map host_codes.input ks) (came_to ds) n (rw (made_left host_codes (reset_bytes 1) ks m) at e))

  -- the state that the decoding calls left, while they are behind what was sent
  pub running_host_behind : AsSent (length (came_to ds)) (sent_by ks) (came_to ds)
      → bands (coder_bytes (coder_after reset_coder (take (2 * length (came_to ds)) (spoken_to ks))))
      ≡ bands (last_of host_decodes (reset_bytes 2) ds)
  running_host_behind e =
      rw (made_record host_decodes (reset_bytes 2) ds w, made_taken host_codes (reset_bytes 1) ks m, made_taken host_decodes (reset_bytes 2) ds w)
      (host_state_behind (map host_codes.input ks) (map host_decodes.input ds)
      (rw (made_left host_codes (reset_bytes 1) ks m, made_taken host_decodes (reset_bytes 2) ds w) at e))

  -- the states that both left, where all that was sent has come
  pub running_host_states_equal : map upper_six (sent_by ks) ≡ map upper_six (received (came_to ds))
      → bands (last_of host_codes (reset_bytes 1) ks) ≡ bands (last_of host_decodes (reset_bytes 2) ds)
  running_host_states_equal e =
      rw (made_record host_codes (reset_bytes 1) ks m, made_record host_decodes (reset_bytes 2) ds w)
      (host_states_equal (map host_codes.input ks) (map host_decodes.input ds)
      (rw (made_left host_codes (reset_bytes 1) ks m, made_taken host_decodes (reset_bytes 2) ds w) at e))

-- from equal state bytes, whatever they are, calls that differ in cue bits alone: the same answers, sample bytes and state bytes
pub running_host_unheard : (state : List ℕ) (ks js : List HostDecode)
    → MadeFrom host_decodes state ks → MadeFrom host_decodes state js
    → Each AlikeInput (map host_decodes.input ks) (map host_decodes.input js)
    → (map host_decodes.answer ks ≡ map host_decodes.answer js) × (heard_from ks ≡ heard_from js)
    × (last_of host_decodes state ks ≡ last_of host_decodes state js)
running_host_unheard state ks js m w a = (
  made_answers host_decodes state ks m ∙ host_answers_unheard state a ∙ sym (made_answers host_decodes state js w),
  made_left host_decodes state ks m ∙ host_samples_unheard state a ∙ sym (made_left host_decodes state js w),
  made_record host_decodes state ks m ∙ host_state_unheard state a ∙ sym (made_record host_decodes state js w),
)
