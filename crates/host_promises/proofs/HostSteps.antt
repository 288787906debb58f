-- The two steps of decoding for a host that keeps bytes: over the record and the signal bytes that the first gave, the second gives what
-- decoding gives.
-- Assumes nothing.
use Rattle.std.specs.Prelude.{◌≡◌, true, false, List, [], ◌∷◌, ℕ, ◌*◌, ◌/◌, ltb, ℤ}
use Rattle.std.proofs.Math.Path.{refl, sym, ap}
use Rattle.std.proofs.Common.{◌∙◌}
use native.Mathlib.Omega.{arith}
use borrow.Author.Tests.{eq-eqb}
use Rattle.std.proofs.Math.ListN.{length}
use Rattle.laws.specs.Both.{left_true, right_true}
use Rattle.g722.specs.Records.{in_range, all_in_range, good_decoder}
use Rattle.g722.specs.Decoding.{decoded}
use Rattle.g722.specs.Steps.{rls_of, rhs_of, heard_after, joined}
use Rattle.g722.specs.declared.Decoder.{Decoder}
use Rattle.facts.specs.Fits.{AllFit, fit_at, in_range_fits}
use Rattle.facts.specs.Signals.{rls_length, rhs_length, rls_in_range, rhs_in_range, no_bad_pair, heard_good}
use Rattle.g722.specs.Arithmetic.{overloads}
use Rattle.facts.specs.Steps.{full_in_steps, samples_in_steps, record_in_steps}
use Rattle.big_endian.specs.Bytes.{pcm_samples, pcm_bytes, samples_of_bytes, bytes_length}
use Rattle.pcm.specs.Chunks.{as_bytes}
use Rattle.pcm.specs.Signals.{unpaired_bytes, unjoined_bytes, join_signals, join_chunk}

-- ---- the first step's signals, as bytes, are what the second asks for

all_fit : (s : List ℤ) → all_in_range s ≡ true → AllFit s
unfolding all_in_range
all_fit [] e = tt
all_fit (z ∷ s) e = (in_range_fits z (left_true (in_range z) (all_in_range s) e), all_fit s (right_true (in_range z) (all_in_range s) e))

signals_back : (s : List ℤ) → all_in_range s ≡ true → pcm_samples (pcm_bytes s) ≡ s
signals_back s e = samples_of_bytes s (fit_at s (all_fit s e))

in_steps_lem : (mode : ℕ) (d : Decoder) (o : List ℕ) → joined (heard_after d o) (rls_of mode d.low o) (rhs_of d.high o) ≡ decoded mode d o
unfolding joined decoded heard_after
in_steps_lem mode d o = λ i. record {
  answer = record {
    number = 0;
    index = 0;
    limited = overloads (sym (full_in_steps mode d o) i);
    next = sym (record_in_steps mode d o) i;
  };
  left = sym (samples_in_steps mode d o) i;
}

-- n octets at most 8000, and four bytes of samples an octet
module _ (mode : ℕ) (d : Decoder) (o s : List ℕ) (n : ltb 8000 (length o) ≡ false) (four : length s ≡ 4 * length o) where
  abbrev low : List ℤ
  low = rls_of mode d.low o

  abbrev high : List ℤ
  high = rhs_of d.high o

  joins_fit : unjoined_bytes (length (pcm_bytes low) / 2) (length (pcm_bytes low)) (length (pcm_bytes high)) (length s) ≡ false
  unfolding unjoined_bytes unpaired_bytes
  joins_fit =
      let l : length (pcm_bytes low) ≡ 2 * length o = bytes_length low ∙ ap (λ (k : ℕ). 2 * k) (rls_length mode d.low o) in
      let m : length (pcm_bytes high) ≡ 2 * length o = bytes_length high ∙ ap (λ (k : ℕ). 2 * k) (rhs_length d.high o) in
      let half : 2 * length o / 2 ≡ length o = omega arith in
      rw (l, m, half, four, n, eq-eqb (2 * length o) (2 * length o) refl, eq-eqb (4 * length o) (4 * length o) refl)

  pub joins_heard : good_decoder d ≡ true → join_chunk (heard_after d o) (pcm_bytes low) (pcm_bytes high) s ≡ as_bytes (decoded mode d o)
  unfolding join_chunk join_signals
  joins_heard g =
      let p = rls_in_range mode d.low o in
      let q = rhs_in_range d.high o in
      let e : length high ≡ length low = rhs_length d.high o ∙ sym (rls_length mode d.low o) in
      rw (joins_fit, signals_back low p, signals_back high q, heard_good d o g, no_bad_pair low high e p q)
      (ap as_bytes (in_steps_lem mode d o))
