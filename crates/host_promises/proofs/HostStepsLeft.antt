-- What each of the two steps of decoding leaves of a state, for a host that keeps bytes: the first leaves the bytes of the past pairs, 81
-- to 124 of the state, and the second those of both bands, 1 to 80.
-- Assumes nothing.
use Rattle.std.specs.Prelude.{◌≡◌, true, List, [], ◌∷◌, ◌++◌, ℕ, ◌/◌, ltb, eqb, ℤ, drop}
use Rattle.std.proofs.Math.Path.{refl, sym, ap}
use Rattle.std.proofs.Common.{subst, ◌∙◌}
use Rattle.std.proofs.Math.ListN.{length}
use Rattle.laws.specs.Order.{by_test, no}
use Rattle.g722.specs.Quantise.{in_force}
use Rattle.g722.specs.Octet.{high_word, low_word}
use Rattle.g722.specs.Records.{good_decoder}
use Rattle.g722.specs.Steps.{band_after, low_next, high_next, heard_after, heard, joined_after, first_bad_pair, joined}
use Rattle.g722.specs.declared.Band.{Band}
use Rattle.g722.specs.declared.Decoder.{Decoder}
use Rattle.facts.specs.Fits.{BandFits, DecoderFits, low_fits, high_fits}
use Rattle.big_endian.specs.Bytes.{pcm_samples, pcm_bytes}
use Rattle.pcm.specs.Chunks.{not_stored, as_bytes}
use Rattle.pcm.specs.Signals.{unpaired_bytes, not_heard_bytes, both_as_bytes, hear_chunk}
use Rattle.pcm.specs.Signals.{unjoined_bytes, bad_pair, join_signals, join_chunk}
use Rattle.state.specs.Layout.{band_values, decoder_values, decoder_bytes, decoder_in}
use Rattle.state.proofs.Values.{spelled, spelled_same}
use Rattle.state.proofs.Bands.{decoder_bands}
use Rattle.state.proofs.Round.{Holds, decoder_bytes_back, decoder_in_fits}
use Rattle.host.specs.Calls.{after_decoding}
use Rattle.host_steps.specs.Calls.{hear_bytes, join_bytes}
use Rattle.host_promises.specs.HostEnds.{bands}

-- ---- what an accepted chunk is

heard_chunk : (d : Decoder) (told : ℕ) (octets low high : List ℕ) → eqb (hear_chunk d told octets low high).answer.number 0 ≡ true
    → hear_chunk d told octets low high ≡ both_as_bytes (heard (in_force told) d octets)
unfolding hear_chunk not_heard_bytes
heard_chunk d told octets low high h =
    by_test (ltb 3 told) (λ e. no (sym (rw e at h))) (λ e.
    by_test (unpaired_bytes (length octets) (length low) (length high)) (λ f. no (sym (rw (e, f) at h))) (λ f.
    by_test (good_decoder d) (λ g. rw (e, f, g)) (λ g. no (sym (rw (e, f, g) at h)))))

joined_chunk : (d : Decoder) (low high samples : List ℕ) → eqb (join_chunk d low high samples).answer.number 0 ≡ true
    → join_chunk d low high samples ≡ as_bytes (joined d (pcm_samples low) (pcm_samples high))
unfolding join_chunk join_signals not_stored bad_pair
joined_chunk d low high samples h =
    let x = pcm_samples low in
    let y = pcm_samples high in
    by_test (unjoined_bytes (length low / 2) (length low) (length high) (length samples)) (λ e. no (sym (rw e at h))) (λ e.
    by_test (good_decoder d) (λ f.
    by_test (ltb (first_bad_pair x y) (length x)) (λ g. no (sym (rw (e, f, g) at h))) (λ g. rw (e, f, g)))
    (λ f. no (sym (rw (e, f) at h))))

-- ---- the record after the first step can be kept as bytes

run_fits : {A : Type 0} (next : Band → A → Band) → ((s : Band) (o : A) → BandFits s → BandFits (next s o))
    → (s : Band) (os : List A) → BandFits s → BandFits (band_after next s os)
unfolding band_after
run_fits next each s [] f = f
run_fits next each s (o ∷ os) f = run_fits next each (next s o) os (each s o f)

pub heard_fits : (d : Decoder) (os : List ℕ) → DecoderFits d → DecoderFits (heard_after d os)
unfolding heard_after
heard_fits d os f =
    record {
      low = run_fits low_next (λ s o. low_fits s (low_word o)) d.low os f.low;
      high = run_fits high_next (λ s o. high_fits s (high_word o)) d.high os f.high;
      rl = f.rl;
      rh = f.rh;
    }

-- ---- what each step leaves

-- the bytes of the past pairs in a state
abbrev pub pairs : List ℕ → List ℕ
pairs state = drop 81 state

after_80 : (low high : Band) (rest : List ℤ) → BandFits low → BandFits high
    → drop 80 (pcm_bytes (band_values low ++ (band_values high ++ rest))) ≡ pcm_bytes rest
unfolding pcm_bytes band_values
after_80 low high rest p q =
    subst (λ (s : Band). drop 80 (pcm_bytes (band_values s ++ (band_values high ++ rest))) ≡ pcm_bytes rest) (spelled_same low p)
    (subst (λ (t : Band). drop 80 (pcm_bytes (band_values (spelled low) ++ (band_values t ++ rest))) ≡ pcm_bytes rest)
    (spelled_same high q) refl)

decoder_pairs : (d : Decoder) → DecoderFits d → pairs (decoder_bytes d) ≡ pcm_bytes (d.past.rl ++ d.past.rh)
unfolding decoder_bytes decoder_values
decoder_pairs d f = after_80 d.low d.high (d.past.rl ++ d.past.rh) f.low f.high

pairs_stay : (d : Decoder) (os : List ℕ) → DecoderFits d → pairs (decoder_bytes (heard_after d os)) ≡ pairs (decoder_bytes d)
unfolding heard_after
pairs_stay d os f = decoder_pairs (heard_after d os) (heard_fits d os f) ∙ sym (decoder_pairs d f)

bands_stay : (d : Decoder) (x y : List ℤ) → DecoderFits d → bands (decoder_bytes (joined_after d x y)) ≡ bands (decoder_bytes d)
unfolding joined_after
bands_stay d x y f = decoder_bands (joined_after d x y) f.low f.high ∙ sym (decoder_bands d f.low f.high)

-- THE THEOREMS, of bytes that hold a record, good or broken: refused or not, the first step leaves the past pairs and the second the bands
module _ (state : List ℕ) (held : Holds 2 state) where
  pub host_hear_leaves_pairs : (told : ℕ) (octets low high : List ℕ)
      → pairs (hear_bytes state told octets low high).left.0 ≡ pairs state
  unfolding hear_bytes after_decoding both_as_bytes heard
  host_hear_leaves_pairs told octets low high =
      let d = decoder_in state in
      by_test (eqb (hear_chunk d told octets low high).answer.number 0)
      (λ e. rw (heard_chunk d told octets low high e)
      (pairs_stay d octets (decoder_in_fits state held) ∙ ap pairs (decoder_bytes_back state held)))
      (λ e. rw e)

  pub host_join_leaves_bands : (low high samples : List ℕ) → bands (join_bytes state low high samples).left.0 ≡ bands state
  unfolding join_bytes after_decoding as_bytes joined
  host_join_leaves_bands low high samples =
      let d = decoder_in state in
      by_test (eqb (join_chunk d low high samples).answer.number 0)
      (λ e. rw (joined_chunk d low high samples e)
      (bands_stay d (pcm_samples low) (pcm_samples high) (decoder_in_fits state held) ∙ ap bands (decoder_bytes_back state held)))
      (λ e. rw e)
