-- Laws of a signal coded and of an octet heard, on plain values.
-- Assumes nothing.
use mathlib.Core.Path.{◌≡◌, ◌∙◌}
use Prim.Native.Nat.{ℕ}
use lib.IntN.{ℤ}
use Rattle.g722.specs.Arithmetic.{add, sub, limited}
use Rattle.g722.specs.Band.{recons}
use Rattle.g722.specs.Octet.{octet}
use Rattle.g722.specs.declared.Limited.{Limited}
use Rattle.g722.specs.declared.Band.{Band}
use Rattle.band.specs.declared.Estimates.{Estimates}
use Rattle.band.specs.Loop.{estimated, adapted, halves}
use Rattle.quant.specs.Own.{Own, word_of, difference_of, factors_of}
use Rattle.plain.specs.declared.Word.{Word}
use Rattle.plain.specs.declared.Banded.{Banded}
use Rattle.plain.specs.declared.Signal.{Signal}
use Rattle.plain.specs.Step.{after_in, coded_in, heard_in, low_coded, high_coded, bands_coded}

-- ---- one band, low or high

module _ (b : Own) (band : Band) {e : Estimates} (e≡ : e ≡ estimated band) (w : ℕ) {next : Band}
    (next≡ : next ≡ adapted band e (difference_of b w band.factors.scale) (factors_of b band.factors w)) where
  band_after : next ≡ after_in b band w
  unfolding after_in
  band_after = next≡ ∙ (λ i. adapted band (e≡ i) (difference_of b w band.factors.scale) (factors_of b band.factors w)) ∙ halves band _ _

  pub band_coded : (x : ℤ) → w ≡ word_of b (sub x e.s) band.factors.scale → ◌≡◌ {A = Word} (record { word = w; next = next }) (coded_in b band x)
  unfolding coded_in estimated
  band_coded x w≡ =
      let word = w≡ ∙ λ i. word_of b (sub x (e≡ i).s) band.factors.scale in
      λ i. record { word = word i; next = (band_after ∙ λ j. after_in b band (word j)) i }

  pub band_heard : (d : ℤ) {signal : Limited} → signal ≡ limited (add e.s d)
      → ◌≡◌ {A = Signal} (record { signal = signal; next = next }) (heard_in b band w d)
  unfolding heard_in estimated recons
  band_heard d signal≡ = λ i. record { signal = (signal≡ ∙ λ j. limited (add (e≡ j).s d)) i; next = band_after i }

-- ---- both bands coded

pub signals_coded : (low high : Band) (xl xh : ℤ) {l h : Word} {o : ℕ}
    → l ≡ low_coded low xl → h ≡ high_coded high xh → o ≡ octet h.word l.word
    → ◌≡◌ {A = Banded} (record { octet = o; low = l.next; high = h.next }) (bands_coded low high xl xh)
unfolding bands_coded low_coded high_coded
signals_coded low high xl xh l≡ h≡ o≡ =
    let o = o≡ ∙ λ i. octet (h≡ i).word (l≡ i).word in
    λ i. record { octet = o i; low = (l≡ i).next; high = (h≡ i).next }
