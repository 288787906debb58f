-- Cue bits are never heard: of an octet, of a run, of a call.
-- Assumes nothing.
use Rattle.std.specs.Prelude.{◌≡◌, refl, ℕ, ◌/◌, ◌%◌, ltb, eqb, ℤ}
use Rattle.std.proofs.Math.Path.{sym, ap}
use Rattle.std.proofs.Common.{◌∙◌, shr-shr}
use mathlib.Core.List.{List, [], ◌∷◌, head-eq_of_cons-eq, tail-eq_of_cons-eq, nil≢cons, cons≢nil}
use Rattle.std.proofs.Math.ListN.{length, length-map}
use Rattle.std.proofs.Math.Pow.{field}
use Rattle.laws.specs.Order.{by_test}
use Rattle.g722.specs.Arithmetic.{limit}
use Rattle.g722.specs.Tables.{qq5, qq4}
use Rattle.g722.specs.Words.{from_five, from_four}
use Rattle.g722.specs.Quantise.{in_force, inverse, invqbl, invqah}
use Rattle.g722.specs.Band.{recons, high_after}
use Rattle.g722.specs.Octet.{low_word}
use Rattle.g722.specs.Records.{good_decoder}
use Rattle.g722.specs.Coding.{misfit}
use Rattle.g722.specs.Decoding.{yl_of, yh_of, rl_of, rh_of, samples_in_full, samples_of, decoder_after}
use Rattle.g722.specs.Decoding.{not_decoded, decoded, decode_call}
use Rattle.g722.specs.Steps.{signals_of, band_after, low_next, high_next, yls_of, yhs_of, rls_of, rhs_of, heard_after}
use Rattle.g722.specs.Steps.{joined_in_full, joined_of, joined_after}
use Rattle.facts.specs.Steps.{full_in_steps, samples_in_steps, record_in_steps}
use Rattle.facts.specs.Upper.{upper_six, low_by_four, upper_low, upper_high}
use Rattle.g722.specs.declared.Band.{Band}
use Rattle.g722.specs.declared.Decoder.{Decoder}
use Rattle.g722.specs.Answers.{Decoded}
use Rattle.promises.proofs.Accepted.{decoded_run}
use Rattle.promises.proofs.Unheard.{heard_bits, Alike}

-- ---- one octet

heard_low : (mode o r : ℕ) (det : ℤ) → heard_bits mode o ≡ heard_bits mode r → invqbl mode (low_word o) det ≡ invqbl mode (low_word r) det
unfolding heard_bits invqbl
heard_low mode o r det e =
    by_test (eqb mode 1)
    (λ t. let h : o ≡ r = rw t at e in rw (t, h))
    (λ t. by_test (eqb mode 2)
    (λ u. let h : o / 2 ≡ r / 2 = rw (t, u) at e in
    rw (t, u) (ap (λ (w : ℕ). inverse qq5 (from_five w) det) (field o 5 1 ∙ ap (λ (x : ℕ). x % 32) h ∙ sym (field r 5 1))))
    (λ u. let h : o / 4 ≡ r / 4 = rw (t, u) at e in rw (t, u) (ap (λ (w : ℕ). inverse qq4 (from_four w) det) (upper_low o r h))))

upper : (mode o r : ℕ) → heard_bits mode o ≡ heard_bits mode r → upper_six o ≡ upper_six r
unfolding heard_bits
upper mode o r e =
    by_test (eqb mode 1)
    (λ t. let h : o ≡ r = rw t at e in ap upper_six h)
    (λ t. by_test (eqb mode 2)
    (λ u. let h : o / 2 ≡ r / 2 = rw (t, u) at e in sym (shr-shr o 1 1) ∙ ap (λ (x : ℕ). x / 2) h ∙ shr-shr r 1 1)
    (λ u. rw (t, u) at e))

module _ (mode : ℕ) (s : Band) (o r : ℕ) (e : heard_bits mode o ≡ heard_bits mode r) where
  yl_same : yl_of mode s o ≡ yl_of mode s r
  unfolding yl_of
  yl_same = ap (recons s) (heard_low mode o r s.factors.scale e)

  yh_same : yh_of s o ≡ yh_of s r
  unfolding yh_of
  yh_same = ap (λ (w : ℕ). recons s (invqah w s.factors.scale)) (upper_high o r (upper mode o r e))

  rl_same : rl_of mode s o ≡ rl_of mode s r
  unfolding rl_of
  rl_same = ap limit yl_same

  rh_same : rh_of s o ≡ rh_of s r
  unfolding rh_of
  rh_same = ap limit yh_same

  low_same : low_next s o ≡ low_next s r
  low_same = low_by_four s (low_word o) (low_word r) (upper_low o r (upper mode o r e))

  high_same : high_next s o ≡ high_next s r
  high_same = ap (high_after s) (upper_high o r (upper mode o r e))

-- ---- a run: the same signals of each band, so the same samples

-- a band whose signal and next band are the same of octets that are heard alike
band_same : (mode : ℕ) (signal : Band → ℕ → ℤ) (next : Band → ℕ → Band)
    → ((s : Band) (o r : ℕ) → heard_bits mode o ≡ heard_bits mode r → signal s o ≡ signal s r)
    → ((s : Band) (o r : ℕ) → heard_bits mode o ≡ heard_bits mode r → next s o ≡ next s r)
    → (s : Band) (os rs : List ℕ) → Alike mode os rs
    → (signals_of signal next s os ≡ signals_of signal next s rs) × (band_after next s os ≡ band_after next s rs)
unfolding signals_of band_after
band_same mode signal next f g s [] [] e = (refl, refl)
band_same mode signal next f g s [] (r ∷ rs) e = absurd (nil≢cons e)
band_same mode signal next f g s (o ∷ os) [] e = absurd (cons≢nil e)
band_same mode signal next f g s (o ∷ os) (r ∷ rs) e =
    let h = head-eq_of_cons-eq e in
    let to = g s o r h in
    let rest = band_same mode signal next f g (next s r) os rs (tail-eq_of_cons-eq e) in (
      λ i. f s o r h i ∷ (ap (λ (b : Band). signals_of signal next b os) to ∙ rest.0) i,
      ap (λ (b : Band). band_after next b os) to ∙ rest.1,
    )

-- THE LAWS, of the first step: the signals in full, which are counted; and the low signals, the high signals and the record
pub counted_same : (mode : ℕ) (d : Decoder) (os rs : List ℕ) → Alike mode os rs
    → (yls_of mode d.low os ≡ yls_of mode d.low rs) × (yhs_of d.high os ≡ yhs_of d.high rs)
unfolding yls_of yhs_of
counted_same mode d os rs a = (
  (band_same mode (yl_of mode) low_next (yl_same mode) (low_same mode) d.low os rs a).0,
  (band_same mode yh_of high_next (yh_same mode) (high_same mode) d.high os rs a).0,
)

pub heard_same : (mode : ℕ) (d : Decoder) (os rs : List ℕ) → Alike mode os rs
    → (rls_of mode d.low os ≡ rls_of mode d.low rs) × (rhs_of d.high os ≡ rhs_of d.high rs) × (heard_after d os ≡ heard_after d rs)
unfolding rls_of rhs_of heard_after
heard_same mode d os rs a =
    let low = band_same mode (rl_of mode) low_next (rl_same mode) (low_same mode) d.low os rs a in
    let high = band_same mode rh_of high_next (rh_same mode) (high_same mode) d.high os rs a in
    (low.0, high.0, λ i. record { low = low.1 i; high = high.1 i; past = d.past })

-- and so of decoding, which is what the second step makes of them: its samples in full, its record and its samples
pub full_same : (mode : ℕ) (d : Decoder) (os rs : List ℕ) → Alike mode os rs → samples_in_full mode d os ≡ samples_in_full mode d rs
full_same mode d os rs a =
    let e = heard_same mode d os rs a in
    full_in_steps mode d os ∙ (λ i. joined_in_full d.past (e.0 i) (e.1 i)) ∙ sym (full_in_steps mode d rs)

pub run_same : (mode : ℕ) (d : Decoder) (os rs : List ℕ) → Alike mode os rs
    → (decoder_after mode d os ≡ decoder_after mode d rs) × (samples_of mode d os ≡ samples_of mode d rs)
run_same mode d os rs a =
    let e = heard_same mode d os rs a in (
      record_in_steps mode d os ∙ (λ i. joined_after (e.2 i) (e.0 i) (e.1 i)) ∙ sym (record_in_steps mode d rs),
      samples_in_steps mode d os ∙ (λ i. joined_of d.past (e.0 i) (e.1 i)) ∙ sym (samples_in_steps mode d rs),
    )

-- ---- a call, and calls

module _ (d : Decoder) (told : ℕ) (os rs : List ℕ) (s t : List ℤ) (a : Alike (in_force told) os rs) (l : length s ≡ length t) where
  answer_same : (decode_call d told os s).answer ≡ (decode_call d told rs t).answer
  unfolding decode_call not_decoded decoded
  answer_same =
      let m : length os ≡ length rs = sym (length-map os _) ∙ ap length a ∙ length-map rs _ in
      by_test (ltb 3 told) (λ e. rw e) (λ e.
      by_test (misfit (length t) (length rs)) (λ f. rw (e, l, m, f)) (λ f.
      by_test (good_decoder d)
      (λ g. rw (e, l, m, f, g, (run_same (in_force told) d os rs a).0, full_same (in_force told) d os rs a)) (λ g. rw (e, l, m, f, g))))

  -- THE THEOREM, of a call: the same number, index, count and next record, and the same samples if it is accepted
  pub call_unheard : ((decode_call d told os s).answer ≡ (decode_call d told rs t).answer)
      × ((decode_call d told os s).answer.number ≡ 0 → (decode_call d told os s).left ≡ (decode_call d told rs t).left)
  unfolding decoded
  call_unheard = (
    answer_same,
    λ h.
        ap (λ o. o.left) (decoded_run d told os s h)
        ∙ (run_same (in_force told) d os rs a).1
        ∙ sym (ap (λ o. o.left) (decoded_run d told rs t (ap (λ (x : Decoded). x.number) (sym answer_same) ∙ h))),
  )
