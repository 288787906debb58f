-- One run of each step of decoding. The first goes over octets that are each told a mode of their own, which only its low signals know; the
-- second over pairs of signals. Either may be cut anywhere, and a run of the decoder is the two in turn.
-- Assumes nothing.
use Rattle.std.specs.Prelude.{◌≡◌, refl, ℕ, ℤ, length}
use Rattle.std.proofs.Common.{sym, ap, ◌∙◌, arith}
use mathlib.Core.List.{List, [], ◌∷◌, ◌++◌, map, map-append, zip_with}
use Rattle.g722.specs.Arithmetic.{limit}
use Rattle.g722.specs.Decoding.{yl_of, yh_of, rl_of, rh_of, rl_row, rh_row, first_of, second_of, decoder_step}
use Rattle.g722.specs.Mirror.{accumc, accumd}
use Rattle.g722.specs.Steps.{signals_of, band_after, low_next, high_next, yls_of, yhs_of, rls_of, rhs_of, heard_after}
use Rattle.g722.specs.Steps.{pairs_next, joined_in_full, joined_of, pairs_after, joined_after}
use Rattle.g722.specs.declared.Band.{Band}
use Rattle.g722.specs.declared.Pairs.{Pairs}
use Rattle.g722.specs.declared.Decoder.{Decoder}
use Rattle.facts.specs.Told.{Told, decoder_run, full_run, samples_run, marked}

-- ---- the first step

-- the octets of a run
abbrev pub received : List Told → List ℕ
received ts = map (λ (t : Told). t.octet) ts

-- a low signal of octets that are each told a mode: RL, and YL in full. RH and YH have no mode, and neither has a record
unfoldable pub lows_run : (ℕ → Band → ℕ → ℤ) → Band → List Told → List ℤ
lows_run signal s ts =
    signals_of (λ (b : Band) (t : Told). signal t.mode b t.octet) (λ (b : Band) (t : Told). low_next b t.octet) s ts

unfoldable pub rls_run : Band → List Told → List ℤ
rls_run s ts = lows_run rl_of s ts

unfoldable pub yls_run : Band → List Told → List ℤ
yls_run s ts = lows_run yl_of s ts

-- octets that are all told one mode
pub received_marked : (mode : ℕ) (os : List ℕ) → received (marked mode os) ≡ os
received_marked mode [] = refl
received_marked mode (o ∷ os) = ap (λ (l : List ℕ). o ∷ l) (received_marked mode os)

lows_marked : (signal : ℕ → Band → ℕ → ℤ) (mode : ℕ) (s : Band) (os : List ℕ)
    → lows_run signal s (marked mode os) ≡ signals_of (signal mode) low_next s os
unfolding lows_run signals_of
lows_marked signal mode s [] = refl
lows_marked signal mode s (o ∷ os) = ap (λ (l : List ℤ). signal mode s o ∷ l) (lows_marked signal mode (low_next s o) os)

pub rls_marked : (mode : ℕ) (s : Band) (os : List ℕ) → rls_run s (marked mode os) ≡ rls_of mode s os
unfolding rls_run rls_of
rls_marked = lows_marked rl_of

pub yls_marked : (mode : ℕ) (s : Band) (os : List ℕ) → yls_run s (marked mode os) ≡ yls_of mode s os
unfolding yls_run yls_of
yls_marked = lows_marked yl_of

-- the signals of each band over a run
abbrev pub low_run : Decoder → List Told → List ℤ
low_run d ts = rls_run d.low ts

abbrev pub high_run : Decoder → List Told → List ℤ
high_run d ts = rhs_of d.high (received ts)

-- cut in two
pub heard_cut : (d : Decoder) (ts rest : List Told)
    → heard_after d (received (ts ++ rest)) ≡ heard_after (heard_after d (received ts)) (received rest)
unfolding heard_after band_after
heard_cut d [] rest = refl
heard_cut d (t ∷ ts) rest = heard_cut (heard_after d (t.octet ∷ [])) ts rest

lows_cut : (signal : ℕ → Band → ℕ → ℤ) (d : Decoder) (ts rest : List Told)
    → lows_run signal d.low (ts ++ rest) ≡ lows_run signal d.low ts ++ lows_run signal (heard_after d (received ts)).low rest
unfolding lows_run signals_of heard_after band_after
lows_cut signal d [] rest = refl
lows_cut signal d (t ∷ ts) rest =
    ap (λ (l : List ℤ). signal t.mode d.low t.octet ∷ l) (lows_cut signal (heard_after d (t.octet ∷ [])) ts rest)

pub low_cut : (d : Decoder) (ts rest : List Told) → low_run d (ts ++ rest) ≡ low_run d ts ++ low_run (heard_after d (received ts)) rest
unfolding rls_run
low_cut = lows_cut rl_of

pub yls_cut : (d : Decoder) (ts rest : List Told)
    → yls_run d.low (ts ++ rest) ≡ yls_run d.low ts ++ yls_run (heard_after d (received ts)).low rest
unfolding yls_run
yls_cut = lows_cut yl_of

highs_cut : (signal : Band → ℕ → ℤ) (d : Decoder) (ts rest : List Told)
    → signals_of signal high_next d.high (received (ts ++ rest))
    ≡ signals_of signal high_next d.high (received ts) ++ signals_of signal high_next (heard_after d (received ts)).high (received rest)
unfolding signals_of heard_after band_after
highs_cut signal d [] rest = refl
highs_cut signal d (t ∷ ts) rest =
    ap (λ (l : List ℤ). signal d.high t.octet ∷ l) (highs_cut signal (heard_after d (t.octet ∷ [])) ts rest)

pub high_cut : (d : Decoder) (ts rest : List Told) → high_run d (ts ++ rest) ≡ high_run d ts ++ high_run (heard_after d (received ts)) rest
unfolding rhs_of
high_cut = highs_cut rh_of

pub yhs_cut : (d : Decoder) (ts rest : List Told)
    → yhs_of d.high (received (ts ++ rest)) ≡ yhs_of d.high (received ts) ++ yhs_of (heard_after d (received ts)).high (received rest)
unfolding yhs_of
yhs_cut = highs_cut yh_of

-- ---- the second step

-- RL and RH of one octet
pub record Heard : Type 0 where
  pub rl : ℤ
  pub rh : ℤ

abbrev pub paired : List ℤ → List ℤ → List Heard
paired low high = zip_with (λ (x y : ℤ). record { rl = x; rh = y }) low high

abbrev pub lows : List Heard → List ℤ
lows ps = map (λ (p : Heard). p.rl) ps

abbrev pub highs : List Heard → List ℤ
highs ps = map (λ (p : Heard). p.rh) ps

-- as many of each are what their pairs are
pub lows_paired : (low high : List ℤ) → length high ≡ length low → lows (paired low high) ≡ low
unfolding zip_with
lows_paired [] high e = refl
lows_paired (x ∷ low) [] e = absurd (omega (arith, e))
lows_paired (x ∷ low) (y ∷ high) e = ap (λ (l : List ℤ). x ∷ l) (lows_paired low high (omega (arith, e)))

pub highs_paired : (low high : List ℤ) → length high ≡ length low → highs (paired low high) ≡ high
unfolding zip_with
highs_paired [] [] e = refl
highs_paired [] (y ∷ high) e = absurd (omega (arith, e))
highs_paired (x ∷ low) [] e = absurd (omega (arith, e))
highs_paired (x ∷ low) (y ∷ high) e = ap (λ (l : List ℤ). y ∷ l) (highs_paired low high (omega (arith, e)))

pub paired_cut : (low l high h : List ℤ) → length high ≡ length low → paired (low ++ l) (high ++ h) ≡ paired low high ++ paired l h
unfolding zip_with
paired_cut [] l [] h e = refl
paired_cut [] l (y ∷ high) h e = absurd (omega (arith, e))
paired_cut (x ∷ low) l [] h e = absurd (omega (arith, e))
paired_cut (x ∷ low) l (y ∷ high) h e =
    ap (λ (ps : List Heard). record { rl = x; rh = y } ∷ ps) (paired_cut low l high h (omega (arith, e)))

-- cut in two
pub pairs_cut : (p : Pairs) (hs rest : List Heard)
    → pairs_after p (lows (hs ++ rest)) (highs (hs ++ rest)) ≡ pairs_after (pairs_after p (lows hs) (highs hs)) (lows rest) (highs rest)
unfolding pairs_after
pairs_cut p [] rest = refl
pairs_cut p (h ∷ hs) rest = pairs_cut (pairs_next p h.rl h.rh) hs rest

pub full_cut : (p : Pairs) (hs rest : List Heard) → joined_in_full p (lows (hs ++ rest)) (highs (hs ++ rest))
    ≡ joined_in_full p (lows hs) (highs hs) ++ joined_in_full (pairs_after p (lows hs) (highs hs)) (lows rest) (highs rest)
unfolding joined_in_full pairs_after
full_cut p [] rest = refl
full_cut p (h ∷ hs) rest =
    ap (λ (l : List ℤ). accumc (p.rl ++ (h.rl ∷ [])) (p.rh ++ (h.rh ∷ [])) ∷ accumd (p.rl ++ (h.rl ∷ [])) (p.rh ++ (h.rh ∷ [])) ∷ l)
    (full_cut (pairs_next p h.rl h.rh) hs rest)

pub joined_cut : (p : Pairs) (hs rest : List Heard) → joined_of p (lows (hs ++ rest)) (highs (hs ++ rest))
    ≡ joined_of p (lows hs) (highs hs) ++ joined_of (pairs_after p (lows hs) (highs hs)) (lows rest) (highs rest)
unfolding joined_of
joined_cut p hs rest =
    ap (map limit) (full_cut p hs rest)
    ∙ map-append limit (joined_in_full p (lows hs) (highs hs)) (joined_in_full (pairs_after p (lows hs) (highs hs)) (lows rest) (highs rest))

-- ---- THE LAWS: a run of the decoder, whatever modes are told, is the two in turn

full_run_in_steps : (d : Decoder) (ts : List Told)
    → full_run d ts ≡ joined_in_full d.past (low_run d ts) (high_run d ts)
unfolding full_run first_of second_of decoder_step rl_row rh_row rls_run lows_run rhs_of signals_of joined_in_full pairs_next
full_run_in_steps d [] = refl
full_run_in_steps d (t ∷ ts) =
    ap (λ (l : List ℤ). first_of t.mode d t.octet ∷ second_of t.mode d t.octet ∷ l)
    (full_run_in_steps (decoder_step t.mode d t.octet) ts)

samples_run_in_steps : (d : Decoder) (ts : List Told)
    → samples_run d ts ≡ joined_of d.past (low_run d ts) (high_run d ts)
unfolding samples_run joined_of
samples_run_in_steps d ts = ap (map limit) (full_run_in_steps d ts)

pub decoder_run_in_steps : (d : Decoder) (ts : List Told)
    → decoder_run d ts ≡ joined_after (heard_after d (received ts)) (low_run d ts) (high_run d ts)
unfolding decoder_run decoder_step rl_row rh_row rls_run lows_run rhs_of signals_of band_after heard_after joined_after pairs_after pairs_next
decoder_run_in_steps d [] = refl
decoder_run_in_steps d (t ∷ ts) = decoder_run_in_steps (decoder_step t.mode d t.octet) ts

-- so signals that are those of a run of the first step are joined to what the decoder gives over it
pub decodes : (d : Decoder) (ts : List Told) (low high : List ℤ) → low ≡ low_run d ts → high ≡ high_run d ts
    → (joined_after (heard_after d (received ts)) low high ≡ decoder_run d ts) × (joined_of d.past low high ≡ samples_run d ts)
decodes d ts low high l h = (
  (λ i. joined_after (heard_after d (received ts)) (l i) (h i)) ∙ sym (decoder_run_in_steps d ts),
  (λ i. joined_of d.past (l i) (h i)) ∙ sym (samples_run_in_steps d ts),
)
