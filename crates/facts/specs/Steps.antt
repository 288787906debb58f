-- Decoding is the two steps in turn, over any run of octets, and a run may be cut anywhere.
-- Assumes nothing.
use Rattle.std.specs.Prelude.{◌≡◌, ℕ, ◌*◌, ◌≤◌, ℤ, length}
use Rattle.std.proofs.Math.Path.{refl, ap}
use Rattle.std.proofs.Common.{◌∙◌, zero-le, arith}
use mathlib.Core.List.{List, [], ◌∷◌, ◌++◌, map, map-append}
use Rattle.g722.specs.Arithmetic.{limit}
use Rattle.g722.specs.Mirror.{accumc, accumd}
use Rattle.g722.specs.Decoding.{yl_of, yh_of, rl_of, rh_of, rl_row, rh_row, first_of, second_of, decoder_step}
use Rattle.g722.specs.Decoding.{samples_in_full, samples_of, decoder_after}
use Rattle.g722.specs.Steps.{signals_of, band_after, low_next, high_next, yls_of, yhs_of, rls_of, rhs_of, heard_after}
use Rattle.g722.specs.Steps.{pairs_next, joined_in_full, joined_of, pairs_after, joined_after}
use Rattle.g722.specs.declared.Band.{Band}
use Rattle.g722.specs.declared.Pairs.{Pairs}
use Rattle.g722.specs.declared.Decoder.{Decoder}

-- THE LAWS: the samples of a run, in full and limited, are those of its signals ..
pub full_in_steps : (mode : ℕ) (d : Decoder) (os : List ℕ)
    → samples_in_full mode d os ≡ joined_in_full d.past (rls_of mode d.low os) (rhs_of d.high os)
unfolding samples_in_full first_of second_of decoder_step rl_row rh_row rls_of rhs_of signals_of joined_in_full pairs_next
full_in_steps mode d [] = refl
full_in_steps mode d (o ∷ os) =
    ap (λ (l : List ℤ). first_of mode d o ∷ second_of mode d o ∷ l) (full_in_steps mode (decoder_step mode d o) os)

pub samples_in_steps : (mode : ℕ) (d : Decoder) (os : List ℕ)
    → samples_of mode d os ≡ joined_of d.past (rls_of mode d.low os) (rhs_of d.high os)
unfolding samples_of joined_of
samples_in_steps mode d os = ap (map limit) (full_in_steps mode d os)

-- .. and the record after it is what the second step makes of the record after the first
pub record_in_steps : (mode : ℕ) (d : Decoder) (os : List ℕ)
    → decoder_after mode d os ≡ joined_after (heard_after d os) (rls_of mode d.low os) (rhs_of d.high os)
unfolding decoder_after decoder_step rl_row rh_row rls_of rhs_of signals_of band_after heard_after joined_after pairs_after pairs_next
record_in_steps mode d [] = refl
record_in_steps mode d (o ∷ os) = record_in_steps mode (decoder_step mode d o) os

-- what is heard of a run are its signals in full, limited
heard_limited : (heard full : Band → ℕ → ℤ) (next : Band → ℕ → Band) → ((s : Band) (o : ℕ) → heard s o ≡ limit (full s o))
    → (s : Band) (os : List ℕ) → signals_of heard next s os ≡ map limit (signals_of full next s os)
unfolding signals_of
heard_limited heard full next e s [] = refl
heard_limited heard full next e s (o ∷ os) = λ i. e s o i ∷ heard_limited heard full next e (next s o) os i

pub rls_limited : (mode : ℕ) (s : Band) (os : List ℕ) → rls_of mode s os ≡ map limit (yls_of mode s os)
unfolding rls_of yls_of rl_of
rls_limited mode s os = heard_limited (rl_of mode) (yl_of mode) low_next (λ t o. refl) s os

pub rhs_limited : (s : Band) (os : List ℕ) → rhs_of s os ≡ map limit (yhs_of s os)
unfolding rhs_of yhs_of rh_of
rhs_limited s os = heard_limited rh_of yh_of high_next (λ t o. refl) s os

-- two of each pair at most
pub joined_most : (p : Pairs) (low high : List ℤ) → length (joined_in_full p low high) ≤ 2 * length low
unfolding joined_in_full
joined_most p [] high = zero-le
joined_most p (x ∷ low) [] = zero-le
joined_most p (x ∷ low) (y ∷ high) = omega (arith, joined_most (pairs_next p x y) low high)

-- ---- cut in two

pub record_cut : (mode : ℕ) (d : Decoder) (os rest : List ℕ)
    → decoder_after mode d (os ++ rest) ≡ decoder_after mode (decoder_after mode d os) rest
unfolding decoder_after
record_cut mode d [] rest = refl
record_cut mode d (o ∷ os) rest = record_cut mode (decoder_step mode d o) os rest

pub full_cut : (mode : ℕ) (d : Decoder) (os rest : List ℕ)
    → samples_in_full mode d (os ++ rest) ≡ samples_in_full mode d os ++ samples_in_full mode (decoder_after mode d os) rest
unfolding samples_in_full decoder_after
full_cut mode d [] rest = refl
full_cut mode d (o ∷ os) rest =
    ap (λ (l : List ℤ). first_of mode d o ∷ second_of mode d o ∷ l) (full_cut mode (decoder_step mode d o) os rest)

pub samples_cut : (mode : ℕ) (d : Decoder) (os rest : List ℕ)
    → samples_of mode d (os ++ rest) ≡ samples_of mode d os ++ samples_of mode (decoder_after mode d os) rest
unfolding samples_of
samples_cut mode d os rest =
    ap (map limit) (full_cut mode d os rest) ∙ map-append limit (samples_in_full mode d os) (samples_in_full mode (decoder_after mode d os) rest)

-- the first step: a band's signals, and the band after them
module _ {A : Type 0} (next : Band → A → Band) where
  pub signals_cut : (signal : Band → A → ℤ) (s : Band) (os rest : List A)
      → signals_of signal next s (os ++ rest) ≡ signals_of signal next s os ++ signals_of signal next (band_after next s os) rest
  unfolding signals_of band_after
  signals_cut signal s [] rest = refl
  signals_cut signal s (o ∷ os) rest = ap (λ (l : List ℤ). signal s o ∷ l) (signals_cut signal (next s o) os rest)

  pub band_cut : (s : Band) (os rest : List A) → band_after next s (os ++ rest) ≡ band_after next (band_after next s os) rest
  unfolding band_after
  band_cut s [] rest = refl
  band_cut s (o ∷ os) rest = band_cut (next s o) os rest

-- the second, cut in both signals at one place
pub joined_cut : (p : Pairs) (low high low' high' : List ℤ) → length high ≡ length low
    → joined_in_full p (low ++ low') (high ++ high') ≡ joined_in_full p low high ++ joined_in_full (pairs_after p low high) low' high'
unfolding joined_in_full pairs_after
joined_cut p [] [] low' high' e = refl
joined_cut p [] (y ∷ high) low' high' e = absurd (omega arith)
joined_cut p (x ∷ low) [] low' high' e = absurd (omega arith)
joined_cut p (x ∷ low) (y ∷ high) low' high' e =
    let rl = p.rl ++ (x ∷ []) in
    let rh = p.rh ++ (y ∷ []) in
    ap (λ (l : List ℤ). accumc rl rh ∷ accumd rl rh ∷ l) (joined_cut (pairs_next p x y) low high low' high' (omega arith))

pub pairs_cut : (p : Pairs) (low high low' high' : List ℤ) → length high ≡ length low
    → pairs_after p (low ++ low') (high ++ high') ≡ pairs_after (pairs_after p low high) low' high'
unfolding pairs_after
pairs_cut p [] [] low' high' e = refl
pairs_cut p [] (y ∷ high) low' high' e = absurd (omega arith)
pairs_cut p (x ∷ low) [] low' high' e = absurd (omega arith)
pairs_cut p (x ∷ low) (y ∷ high) low' high' e = pairs_cut (pairs_next p x y) low high low' high' (omega arith)
