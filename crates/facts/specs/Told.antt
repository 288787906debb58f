-- One run of the decoder over octets that are each told a mode of their own; a run may be cut anywhere.
-- Assumes nothing.
use Rattle.std.specs.Prelude.{◌≡◌, refl, List, [], ◌∷◌, ◌++◌, map, ℕ, ◌*◌, ℤ, length}
use Rattle.std.proofs.Common.{ap, ◌∙◌, arith}
use Rattle.std.proofs.lemmas.List.{map-append, length-map}
use Rattle.g722.specs.Arithmetic.{limit}
use Rattle.g722.specs.Decoding.{first_of, second_of, decoder_step, samples_in_full, samples_of, decoder_after}
use Rattle.g722.specs.declared.Decoder.{Decoder}

-- an octet with the mode in force for it
pub record Told : Type 0 where
  pub mode : ℕ
  pub octet : ℕ

unfoldable pub decoder_run : Decoder → List Told → Decoder
decoder_run d [] = d
decoder_run d (t ∷ rest) = decoder_run (decoder_step t.mode d t.octet) rest

-- its samples in full, and limited
unfoldable pub full_run : Decoder → List Told → List ℤ
full_run d [] = []
full_run d (t ∷ rest) =
    first_of t.mode d t.octet ∷ second_of t.mode d t.octet ∷ full_run (decoder_step t.mode d t.octet) rest

unfoldable pub samples_run : Decoder → List Told → List ℤ
samples_run d ts = map limit (full_run d ts)

-- octets that are all told one mode: a run of `g722` is such a run
abbrev pub marked : ℕ → List ℕ → List Told
marked mode os = map (λ (o : ℕ). record { mode = mode; octet = o }) os

pub decoder_run_lem : (mode : ℕ) (d : Decoder) (os : List ℕ) → decoder_after mode d os ≡ decoder_run d (marked mode os)
unfolding decoder_run decoder_after
decoder_run_lem mode d [] = refl
decoder_run_lem mode d (o ∷ os) = decoder_run_lem mode (decoder_step mode d o) os

pub full_run_lem : (mode : ℕ) (d : Decoder) (os : List ℕ) → samples_in_full mode d os ≡ full_run d (marked mode os)
unfolding full_run samples_in_full
full_run_lem mode d [] = refl
full_run_lem mode d (o ∷ os) = ap (λ (l : List ℤ). first_of mode d o ∷ second_of mode d o ∷ l) (full_run_lem mode (decoder_step mode d o) os)

pub samples_run_lem : (mode : ℕ) (d : Decoder) (os : List ℕ) → samples_of mode d os ≡ samples_run d (marked mode os)
unfolding samples_run samples_of
samples_run_lem mode d os = ap (map limit) (full_run_lem mode d os)

pub full_length : (mode : ℕ) (d : Decoder) (os : List ℕ) → length (samples_in_full mode d os) ≡ 2 * length os
unfolding samples_in_full
full_length mode d [] = refl
full_length mode d (o ∷ os) = let l = full_length mode (decoder_step mode d o) os in omega arith

pub samples_length : (mode : ℕ) (d : Decoder) (os : List ℕ) → length (samples_of mode d os) ≡ 2 * length os
unfolding samples_of
samples_length mode d os = length-map (samples_in_full mode d os) limit ∙ full_length mode d os

-- ---- cut in two

pub decoder_join : (d : Decoder) (ts rest : List Told) → decoder_run d (ts ++ rest) ≡ decoder_run (decoder_run d ts) rest
unfolding decoder_run
decoder_join d [] rest = refl
decoder_join d (t ∷ ts) rest = decoder_join (decoder_step t.mode d t.octet) ts rest

pub full_join : (d : Decoder) (ts rest : List Told) → full_run d (ts ++ rest) ≡ full_run d ts ++ full_run (decoder_run d ts) rest
unfolding full_run decoder_run
full_join d [] rest = refl
full_join d (t ∷ ts) rest =
    ap (λ (l : List ℤ). first_of t.mode d t.octet ∷ second_of t.mode d t.octet ∷ l)
    (full_join (decoder_step t.mode d t.octet) ts rest)

pub samples_join : (d : Decoder) (ts rest : List Told) → samples_run d (ts ++ rest) ≡ samples_run d ts ++ samples_run (decoder_run d ts) rest
unfolding samples_run
samples_join d ts rest = ap (map limit) (full_join d ts rest) ∙ map-append limit (full_run d ts) (full_run (decoder_run d ts) rest)
