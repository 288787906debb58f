-- Demand 3 counts from the last reset: any calls and resets at both ends, in any order. Nothing before the last reset of an end tells
-- there, neither calls nor octets, nor what was lost, nor modes.
-- Assumes nothing.
use Rattle.std.specs.Prelude.{◌≡◌, ℕ, ◌*◌, ℤ, length, take}
use Rattle.std.proofs.Math.Path.{refl, ap}
use Rattle.std.proofs.Common.{◌∙◌}
use Rattle.std.proofs.Math.Bool.{cond}
use mathlib.Core.List.{List, [], ◌∷◌, ◌++◌, map, foldl}
use Rattle.g722.specs.Records.{reset_coder, reset_decoder}
use Rattle.g722.specs.Coding.{coder_after}
use Rattle.g722.specs.declared.Coder.{Coder}
use Rattle.g722.specs.declared.Decoder.{Decoder}
use Rattle.facts.specs.Told.{Told, decoder_run}
use Rattle.facts.specs.Upper.{upper_six}
use Rattle.promises.proofs.Through.{Calls, done, following, through, of_accepted, taken, lefts}
use Rattle.promises.proofs.Sequences.{CodeInput, coding, DecodeInput, decoding}
use Rattle.promises.proofs.StepRuns.{received}
use Rattle.promises.proofs.SameBands.{SameBands}
use Rattle.promises.proofs.Ends.{AsSent, ends_equal, record_behind, records_equal}
use Rattle.promises.proofs.Turns.{Turn, reset, since, turned, given, given_in_turn}
use Rattle.promises.proofs.TurnsLaws.{turned_since, past_forgotten, given_since}

-- ---- the calls and resets of an end

module _ (C : Calls) (start : C.State) where
  open C use {State, Input, Given, Item}

  -- the record after turns, and what f gives of each accepted call, each reset in its place
  abbrev pub record_after : State → List (Turn Input) → State
  record_after = turned (following C) start

  abbrev pub in_turn : {Z : Type 0} → (State → Input → List Z) → List (Turn Input) → List (Turn Z)
  in_turn f ts = given_in_turn (following C) start (λ s k. cond (done C s k) (f s k) []) start ts

  -- what was taken and what was left since the last reset
  abbrev pub taken_since : List (Turn Input) → List Given
  taken_since ts = since (in_turn (λ s k. C.given k) ts)

  abbrev pub left_since : List (Turn Input) → List Item
  left_since ts = since (in_turn (λ s k. (C.call s k).left) ts)

  through_all : (s : State) (ks : List Input) → foldl (following C) s ks ≡ through C s ks
  unfolding through
  through_all s [] = refl
  through_all s (k ∷ ks) = through_all (following C s k) ks

  module _ {Z : Type 0} (f : State → Input → List Z) where
    given_accepted : (s : State) (ks : List Input)
        → given (following C) start (λ t k. cond (done C t k) (f t k) []) s ks ≡ of_accepted C f s ks
    unfolding given of_accepted
    given_accepted s [] = refl
    given_accepted s (k ∷ ks) = ap (λ (l : List Z). cond (done C s k) (f s k) [] ++ l) (given_accepted (following C s k) ks)

    in_turn_since : (ts : List (Turn Input)) → since (in_turn f ts) ≡ of_accepted C f start (since ts)
    in_turn_since ts = given_since (following C) start _ ts ∙ given_accepted start (since ts)

  -- THE LAW: all of it is that of the calls since the last reset, made from reset ..
  pub record_since : (ts : List (Turn Input)) → record_after start ts ≡ through C start (since ts)
  record_since ts = turned_since (following C) start ts ∙ through_all start (since ts)

  pub taken_since_lem : (ts : List (Turn Input)) → taken_since ts ≡ taken C start (since ts)
  taken_since_lem = in_turn_since _

  pub left_since_lem : (ts : List (Turn Input)) → left_since ts ≡ lefts C start (since ts)
  left_since_lem = in_turn_since _

  -- .. from whatever record the turns began
  pub record_forgets : (s : State) (before ts : List (Turn Input)) → record_after s (before ++ (reset ∷ ts)) ≡ through C start (since ts)
  record_forgets s before ts = past_forgotten (following C) start s before ts ∙ through_all start (since ts)

-- ---- the two ends

module _ (cs : List (Turn CodeInput)) (ds : List (Turn DecodeInput)) where
  -- since the last reset: the samples of the coder's accepted calls, the octets that they left, and the octets of the decoder's
  abbrev spoken : List ℤ
  spoken = taken_since coding reset_coder cs

  abbrev sent : List ℕ
  sent = left_since coding reset_coder cs

  abbrev came : List Told
  came = taken_since decoding reset_decoder ds

  -- THE THEOREM. Wherever the first n octets since the last reset of both came as they were sent, both bands are the same at both ends
  -- after the n-th ..
  pub equal_since : (n : ℕ) → AsSent n sent came
      → SameBands (coder_after reset_coder (take (2 * n) spoken)) (decoder_run reset_decoder (take n came))
  equal_since n e = rw (taken_since_lem coding reset_coder cs) (ends_equal (since cs) came n (rw (left_since_lem coding reset_coder cs) at e))

  -- .. so of the decoder's record, while it is behind what was sent since then ..
  pub behind_since : AsSent (length came) sent came
      → SameBands (coder_after reset_coder (take (2 * length came) spoken)) (record_after decoding reset_decoder reset_decoder ds)
  behind_since e =
      rw (record_since decoding reset_decoder ds, taken_since_lem coding reset_coder cs, taken_since_lem decoding reset_decoder ds)
      (record_behind (since cs) (since ds) (rw (left_since_lem coding reset_coder cs, taken_since_lem decoding reset_decoder ds) at e))

  -- .. of both records, where all that was sent since then has come ..
  pub records_since : map upper_six sent ≡ map upper_six (received came)
      → SameBands (record_after coding reset_coder reset_coder cs) (record_after decoding reset_decoder reset_decoder ds)
  records_since e =
      rw (record_since coding reset_coder cs, record_since decoding reset_decoder ds)
      (records_equal (since cs) (since ds) (rw (left_since_lem coding reset_coder cs, taken_since_lem decoding reset_decoder ds) at e))

  -- .. and of ends that began with any records and have parted
  pub parted_since : (c : Coder) (d : Decoder) (said : List (Turn CodeInput)) (heard : List (Turn DecodeInput))
      → map upper_six sent ≡ map upper_six (received came)
      → SameBands (record_after coding reset_coder c (said ++ (reset ∷ cs))) (record_after decoding reset_decoder d (heard ++ (reset ∷ ds)))
  parted_since c d said heard e =
      rw (
        record_forgets coding reset_coder c said cs,
        record_forgets decoding reset_decoder d heard ds,
        ← record_since coding reset_coder cs,
        ← record_since decoding reset_decoder ds,
      )
      (records_since e)
