-- What is proved of the two steps of decoding beside their definitions: against decoding, and case by case.
-- Assumes nothing.
use Rattle.std.specs.Prelude.{◌≡◌, Bool, true, false, not, ◌||◌, List, [], ◌∷◌, ◌++◌, ℕ, ◌+◌, eqb, ltb, ℤ, pos, length}
use Rattle.std.proofs.Math.Path.{refl}
use Rattle.g722.specs.Arithmetic.{neg, within, overloads}
use Rattle.g722.specs.Quantise.{in_force}
use Rattle.g722.specs.Records.{in_range, good_decoder}
use Rattle.g722.specs.Coding.{first_bad, misfit}
use Rattle.g722.specs.Decoding.{rl_of, rh_of, rl_row, rh_row, first_of, second_of, decoder_step, samples_in_full, decoder_after}
use Rattle.g722.specs.Steps.{signals_of, band_after, low_next, high_next, yls_of, yhs_of, rls_of, rhs_of, heard_after}
use Rattle.g722.specs.Steps.{unpaired, not_heard, heard, hear_call}
use Rattle.g722.specs.Steps.{pairs_next, joined_in_full, joined_of, pairs_after, joined_after, first_bad_pair, not_joined, joined, join_call}
use Rattle.g722.specs.declared.Decoder.{Decoder}

-- ---- two octets heard and then joined are two octets decoded

module _ (mode : ℕ) (d : Decoder) (a b : ℕ) where
  abbrev two : List ℕ
  two = a ∷ b ∷ []

  -- one octet moves each band by its own word, and the past pairs by its two signals
  pub octet_by_steps : decoder_step mode d a
      ≡ record {
        low = low_next d.low a;
        high = high_next d.high a;
        past = pairs_next d.past (rl_of mode d.low a) (rh_of d.high a);
      }
  unfolding decoder_step rl_row rh_row pairs_next
  octet_by_steps = refl

  -- its samples in full, and so the limited ones and their count
  pub samples_by_steps : samples_in_full mode d two ≡ joined_in_full d.past (rls_of mode d.low two) (rhs_of d.high two)
  unfolding samples_in_full first_of second_of decoder_step rl_row rh_row rls_of rhs_of signals_of joined_in_full pairs_next
  samples_by_steps = refl

  pub record_by_steps : decoder_after mode d two ≡ joined_after (heard_after d two) (rls_of mode d.low two) (rhs_of d.high two)
  unfolding decoder_after decoder_step rl_row rh_row rls_of rhs_of signals_of band_after heard_after joined_after pairs_after pairs_next
  record_by_steps = refl

-- the first leaves the past pairs, the second both bands
pub hearing_leaves_pairs : (d : Decoder) (octets : List ℕ) → (heard_after d octets).past ≡ d.past
unfolding heard_after
hearing_leaves_pairs d octets = refl

pub joining_leaves_bands : (d : Decoder) (low high : List ℤ)
    → ((joined_after d low high).low ≡ d.low) × ((joined_after d low high).high ≡ d.high)
unfolding joined_after
joining_leaves_bands d low high = (refl, refl)

-- n octets with n signals of each band
pub unpaired_lengths : unpaired 0 0 0 ∷ unpaired 8000 8000 8000 ∷ unpaired 8001 8001 8001 ∷ []
    ++ (unpaired 2 1 2 ∷ unpaired 2 3 2 ∷ unpaired 2 2 1 ∷ unpaired 2 2 3 ∷ unpaired 2 4 4 ∷ [])
    ≡ false ∷ false ∷ true ∷ true ∷ true ∷ true ∷ true ∷ true ∷ []
unfolding unpaired
unpaired_lengths = refl

-- the first bad pair, counted in pairs: none; low only; high only; both, the lesser
pub first_bad_pairs : (let s = neg 16384 in
    let t = pos 16383 in
    let u = pos 16384 in
    let v = neg 16385 in
    first_bad_pair (s ∷ t ∷ s ∷ []) (t ∷ s ∷ t ∷ []) ∷ first_bad_pair (s ∷ s ∷ u ∷ []) (t ∷ t ∷ t ∷ [])
    ∷ first_bad_pair (s ∷ s ∷ s ∷ []) (t ∷ v ∷ t ∷ []) ∷ first_bad_pair (s ∷ s ∷ v ∷ []) (t ∷ u ∷ t ∷ [])
    ∷ first_bad_pair (u ∷ s ∷ s ∷ []) (t ∷ t ∷ v ∷ []) ∷ [])
    ≡ 3 ∷ 2 ∷ 1 ∷ 1 ∷ 0 ∷ []
unfolding first_bad_pair first_bad in_range within
first_bad_pairs = refl

-- ---- a call of the first step: 1, then 3, then 2, and what was lent is left as it was

module _ (d : Decoder) (told : ℕ) (octets : List ℕ) (low high : List ℤ) where
  pub hear_1 : ltb 3 told ≡ true
      → hear_call d told octets low high ≡ record { answer = record { number = 1; index = 0; limited = 0; next = d }; left = (low, high) }
  unfolding hear_call not_heard
  hear_1 m = rw m

  module _ (m : ltb 3 told ≡ false) where
    pub hear_3 : unpaired (length octets) (length low) (length high) ≡ true
        → hear_call d told octets low high ≡ record { answer = record { number = 3; index = 0; limited = 0; next = d }; left = (low, high) }
    unfolding hear_call not_heard
    hear_3 n = rw (m, n)

    module _ (n : unpaired (length octets) (length low) (length high) ≡ false) where
      pub hear_2 : good_decoder d ≡ false
          → hear_call d told octets low high
          ≡ record { answer = record { number = 2; index = 0; limited = 0; next = d }; left = (low, high) }
      unfolding hear_call not_heard
      hear_2 g = rw (m, n, g)

      pub hear_0 : good_decoder d ≡ true
          → hear_call d told octets low high
          ≡ record {
            answer = record {
              number = 0;
              index = 0;
              limited = overloads (yls_of (in_force told) d.low octets) + overloads (yhs_of d.high octets);
              next = heard_after d octets;
            };
            left = (rls_of (in_force told) d.low octets, rhs_of d.high octets);
          }
      unfolding hear_call heard
      hear_0 g = rw (m, n, g)

-- ---- and of the second: 3, then 2, then 4 with the first bad pair

module _ (d : Decoder) (low high samples : List ℤ) where
  abbrev unfit : Bool
  unfit = misfit (length samples) (length low) || not (eqb (length high) (length low))

  pub join_3 : unfit ≡ true
      → join_call d low high samples ≡ record { answer = record { number = 3; index = 0; limited = 0; next = d }; left = samples }
  unfolding join_call not_joined
  join_3 n = rw n

  module _ (n : unfit ≡ false) where
    pub join_2 : good_decoder d ≡ false
        → join_call d low high samples ≡ record { answer = record { number = 2; index = 0; limited = 0; next = d }; left = samples }
    unfolding join_call not_joined
    join_2 g = rw (n, g)

    module _ (g : good_decoder d ≡ true) where
      pub join_4 : ltb (first_bad_pair low high) (length low) ≡ true
          → join_call d low high samples
          ≡ record { answer = record { number = 4; index = first_bad_pair low high; limited = 0; next = d }; left = samples }
      unfolding join_call not_joined
      join_4 b = rw (n, g, b)

      pub join_0 : ltb (first_bad_pair low high) (length low) ≡ false
          → join_call d low high samples
          ≡ record {
            answer = record {
              number = 0;
              index = 0;
              limited = overloads (joined_in_full d.past low high);
              next = joined_after d low high;
            };
            left = joined_of d.past low high;
          }
      unfolding join_call joined
      join_0 b = rw (n, g, b)
