-- What the blocks of both ends give back: a signal's word with the band after it, an octet with both bands, and an octet's heard signal,
-- limited, with the band after it.
-- Assumes nothing.
use Rattle.std.specs.Prelude.{◌≡◌, ℕ, ℤ}
use Rattle.g722.specs.Arithmetic.{limited}
use Rattle.g722.specs.Quantise.{subtra, invqbl}
use Rattle.g722.specs.Band.{predic, recons, next_band, low_after, high_after}
use Rattle.g722.specs.Octet.{octet, low_word, high_word}
use Rattle.g722.specs.Coding.{low_word_of, high_word_of}
use Rattle.g722.specs.Decoding.{yl_of, yh_of}
use Rattle.g722.specs.declared.Band.{Band}
use Rattle.quant.specs.Own.{Own, low_own, high_own, word_of, difference_of, factors_of}
use Rattle.quant.specs.Own.{low_quant, high_quant, low_invqa, high_invqa, low_factors_of, high_factors_of}
use Rattle.plain.specs.declared.Word.{Word}
use Rattle.plain.specs.declared.Banded.{Banded}
use Rattle.plain.specs.declared.Signal.{Signal}

-- ---- either band, by what is its own: after a word, coded, and heard where a difference is heard

unfoldable pub after_in : Own → Band → ℕ → Band
after_in b s w = next_band s (difference_of b w s.factors.scale) (factors_of b s.factors w)

unfoldable pub coded_in : Own → Band → ℤ → Word
coded_in b s x =
    let w = word_of b (subtra x (predic s)) s.factors.scale in
    record { word = w; next = after_in b s w }

unfoldable pub heard_in : Own → Band → ℕ → ℤ → Signal
heard_in b s w d = record { signal = limited (recons s d); next = after_in b s w }

-- ---- the coders

unfoldable pub low_coded : Band → ℤ → Word
low_coded s x = record { word = low_word_of s x; next = low_after s (low_word_of s x) }

unfoldable pub high_coded : Band → ℤ → Word
high_coded s x = record { word = high_word_of s x; next = high_after s (high_word_of s x) }

-- both, without the transmit filter
unfoldable pub bands_coded : Band → Band → ℤ → ℤ → Banded
bands_coded low high xl xh =
    let il = low_word_of low xl in
    let ih = high_word_of high xh in
    record { octet = octet ih il; low = low_after low il; high = high_after high ih }

-- ---- the decoders

unfoldable pub low_heard : ℕ → Band → ℕ → Signal
low_heard mode s o = record { signal = limited (yl_of mode s o); next = low_after s (low_word o) }

unfoldable pub high_heard : Band → ℕ → Signal
high_heard s o = record { signal = limited (yh_of s o); next = high_after s (high_word o) }

-- ---- a band, with what is its own, is the low or the high one

pub low_is_after : (s : Band) (w : ℕ) → after_in low_own s w ≡ low_after s w
unfolding after_in low_after
low_is_after s w = λ i. next_band s (low_invqa w s.factors.scale i) (low_factors_of s.factors w i)

pub high_is_after : (s : Band) (w : ℕ) → after_in high_own s w ≡ high_after s w
unfolding after_in high_after
high_is_after s w = λ i. next_band s (high_invqa w s.factors.scale i) (high_factors_of s.factors w i)

pub low_is_coded : (s : Band) (x : ℤ) → coded_in low_own s x ≡ low_coded s x
unfolding coded_in low_coded
low_is_coded s x =
    let word = low_quant (subtra x (predic s)) s.factors.scale in
    λ i. record { word = word i; next = low_is_after s (word i) i }

pub high_is_coded : (s : Band) (x : ℤ) → coded_in high_own s x ≡ high_coded s x
unfolding coded_in high_coded
high_is_coded s x =
    let word = high_quant (subtra x (predic s)) s.factors.scale in
    λ i. record { word = word i; next = high_is_after s (word i) i }

pub low_is_heard : (mode : ℕ) (s : Band) (o : ℕ)
    → heard_in low_own s (low_word o) (invqbl mode (low_word o) s.factors.scale) ≡ low_heard mode s o
unfolding heard_in low_heard yl_of
low_is_heard mode s o = λ i. record { signal = limited (yl_of mode s o); next = low_is_after s (low_word o) i }

pub high_is_heard : (s : Band) (o : ℕ)
    → heard_in high_own s (high_word o) (difference_of high_own (high_word o) s.factors.scale) ≡ high_heard s o
unfolding heard_in high_heard yh_of
high_is_heard s o =
    λ i.
    record {
      signal = limited (recons s (high_invqa (high_word o) s.factors.scale i));
      next = high_is_after s (high_word o) i;
    }
