-- The first step over a run of octets, one band after the other: the signals of each alone in full, and then limited.
-- Assumes nothing.
use Rattle.std.specs.Prelude.{◌≡◌, true, false, ℕ, ◌+◌, ℤ}
use Rattle.std.proofs.Math.Path.{refl, sym, ap}
use Rattle.std.proofs.Common.{◌∙◌}
use mathlib.Core.List.{List, [], ◌∷◌, map}
use Rattle.laws.specs.Outcome.{Does, becomes}
use Rattle.laws.specs.Machine.{outs, last}
use Rattle.facts.specs.Steps.{rls_limited, rhs_limited}
use Rattle.facts.specs.Blocks.{done}
use Rattle.g722.specs.Arithmetic.{limit, overloads}
use Rattle.g722.specs.Decoding.{yl_of, yh_of}
use Rattle.g722.specs.Steps.{signals_of, band_after, low_next, high_next, yls_of, yhs_of, heard_after, heard}
use Rattle.g722.specs.declared.Band.{Band}
use Rattle.g722.specs.declared.Decoder.{Decoder}
use Rattle.g722.specs.Answers.{Decoded}
use Rattle.sweep.specs.Block.{signal_of, heard_next, heard_run}

-- a machine's run is a band's
module _ {A : Type 0} (signal : Band → A → ℤ) (next : Band → A → Band) where
  ends : (s : Band) (os : List A) → last next s os ≡ band_after next s os
  unfolding last band_after
  ends s [] = refl
  ends s (o ∷ os) = ends (next s o) os

  gives : (s : Band) (os : List A) → outs signal next s os ≡ signals_of signal next s os
  unfolding outs signals_of
  gives s [] = refl
  gives s (o ∷ os) = ap (λ (l : List ℤ). signal s o ∷ l) (gives (next s o) os)

module _ (mode : ℕ) (s : Band) (os : List ℕ) where
  low_runs : heard_run false mode s os ≡ record { answer = band_after low_next s os; left = yls_of mode s os }
  unfolding signal_of heard_next yls_of
  low_runs = λ i. record { answer = ends (yl_of mode) low_next s os i; left = gives (yl_of mode) low_next s os i }

  high_runs : heard_run true mode s os ≡ record { answer = band_after high_next s os; left = yhs_of s os }
  unfolding signal_of heard_next yhs_of
  high_runs = λ i. record { answer = ends yh_of high_next s os i; left = gives yh_of high_next s os i }

-- what the code makes of a run, step by step
module _ (mode : ℕ) (d : Decoder) (o : List ℕ) where
  pub heard_by_band : {l h : Band} {yls yhs rls rhs : List ℤ} {n m : ℕ} {r : Decoded}
      → Does (heard_run false mode d.low o) l yls → Does (heard_run true mode d.high o) h yhs
      → (n ≡ overloads yls) × (rls ≡ map limit yls) → (m ≡ overloads yhs) × (rhs ≡ map limit yhs)
      → r ≡ done (n + m) (record { low = l; high = h; past = d.past }) → Does (heard mode d o) r (rls, rhs)
  unfolding heard heard_after
  heard_by_band l≡ h≡ low≡ high≡ r≡ =
      let l = becomes (low_runs mode d.low o) l≡ in
      let h = becomes (high_runs mode d.high o) h≡ in
      let n = low≡.0 ∙ ap overloads l.left in
      let m = high≡.0 ∙ ap overloads h.left in
      let rls = low≡.1 ∙ ap (map limit) l.left ∙ sym (rls_limited mode d.low o) in
      let rhs = high≡.1 ∙ ap (map limit) h.left ∙ sym (rhs_limited d.high o) in
      record {
        answer = r≡ ∙ λ i. done (n i + m i) (record { low = l.answer i; high = h.answer i; past = d.past });
        left = λ i. (rls i, rhs i);
      }
