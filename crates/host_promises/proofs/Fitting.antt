-- Every call gives a record of the machine back for one: its rows have their lengths, and its numbers fit 16 bits.
-- Assumes nothing.
use Rattle.std.proofs.Common.{ap, eqb-true}
use Rattle.std.specs.Prelude.{◌||◌, not, List, ℕ, ◌*◌, ltb, eqb, ℤ, length}
use Rattle.std.proofs.lemmas.Bool.{eqb-false}
use Rattle.laws.specs.Order.{by_test}
use Rattle.facts.specs.Fits.{CoderFits, DecoderFits, coder_run_fits, decoder_run_fits}
use Rattle.facts.specs.Range.{all_clean}
use Rattle.g722.specs.Quantise.{in_force}
use Rattle.g722.specs.Records.{good_decoder}
use Rattle.g722.specs.Coding.{coded, not_coded, code_call}
use Rattle.g722.specs.Decoding.{decoded, decode_call}
use Rattle.g722.specs.declared.Coder.{Coder}
use Rattle.g722.specs.declared.Decoder.{Decoder}
use Rattle.big_endian.specs.Bytes.{pcm_samples}
use Rattle.pcm.specs.Chunks.{encode_chunk, not_stored, as_bytes, decode_chunk}
use Rattle.promises.proofs.Accepted.{coded_clean, coded_run_lem, decoded_run}
use Rattle.promises.proofs.RefusedLaws.{code_beside, decode_beside}

-- THE THEOREMS: of the calls on a record ..

pub coder_stays_fitting : (c : Coder) (s : List ℤ) (o : List ℕ) → CoderFits c → CoderFits (code_call c s o).answer.next
unfolding coded
coder_stays_fitting c s o f =
    by_test (eqb (code_call c s o).answer.number 0)
    (λ e. let h = eqb-true _ _ e in rw (coded_run_lem c s o h) (coder_run_fits c s f (all_clean s (coded_clean c s o h))))
    (λ e. rw (ap (λ p. p.0) ((code_beside c s o).kept (eqb-false _ _ e))) f)

pub decoder_stays_fitting : (d : Decoder) (told : ℕ) (o : List ℕ) (s : List ℤ)
    → DecoderFits d → DecoderFits (decode_call d told o s).answer.next
unfolding decoded
decoder_stays_fitting d told o s f =
    by_test (eqb (decode_call d told o s).answer.number 0)
    (λ e. rw (decoded_run d told o s (eqb-true _ _ e)) (decoder_run_fits (in_force told) d o f))
    (λ e. rw (ap (λ p. p.0) ((decode_beside d told o s).kept (eqb-false _ _ e))) f)

-- .. and on a chunk

pub encode_stays_fitting : (c : Coder) (bytes octets : List ℕ) → CoderFits c → CoderFits (encode_chunk c bytes octets).answer.next
unfolding encode_chunk not_coded
encode_stays_fitting c bytes octets f =
    by_test (eqb (length bytes) (4 * length octets)) (λ e. rw e (coder_stays_fitting c (pcm_samples bytes) octets f)) (λ e. rw e f)

pub store_stays_fitting : (d : Decoder) (told : ℕ) (octets bytes : List ℕ)
    → DecoderFits d → DecoderFits (decode_chunk d told octets bytes).answer.next
unfolding decode_chunk not_stored as_bytes decoded
store_stays_fitting d told octets bytes f =
    by_test (ltb 3 told) (λ e. rw e f) (λ e.
    by_test (ltb 8000 (length octets) || not (eqb (length bytes) (4 * length octets))) (λ g. rw (e, g) f) (λ g.
    by_test (good_decoder d) (λ h. rw (e, g, h) (decoder_run_fits (in_force told) d octets f)) (λ h. rw (e, g, h) f)))
