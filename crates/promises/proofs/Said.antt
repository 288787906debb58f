-- For each call of the definitions there is a result that answers what the call answers: it refuses as a `Refusal` does, or gives what an
-- accepted call gives.
-- Assumes nothing.
use Rattle.std.specs.Prelude.{◌≡◌, refl, Bool, true, false, cond, not, ◌||◌, ℕ, List, ℤ, Result, Ok, Err, length, ltb, eqb}
use Rattle.laws.specs.Outcome.{Outcome}
use Rattle.g722.specs.Answers.{Answer, Moved, answered, moved}
use Rattle.g722.specs.Records.{good_coder, good_decoder}
use Rattle.g722.specs.Coding.{misfit, first_bad, not_coded, coded, code_call}
use Rattle.g722.specs.Decoding.{not_decoded, decoded, decode_call}
use Rattle.g722.specs.Steps.{unpaired, not_heard, heard, hear_call, first_bad_pair, not_joined, joined, join_call}
use Rattle.g722.specs.Cue.{unfilled, data_number, data_call, put_call}
use Rattle.g722.specs.declared.Accepted.{Accepted}
use Rattle.g722.specs.declared.Coder.{Coder}
use Rattle.g722.specs.declared.Decoder.{Decoder}
use Rattle.g722.specs.declared.Refusal.{Refusal}
use Rattle.g722.specs.declared.Refusal.TheVariants.{Mode, Record, Length, Sample, DataChannel}

-- an answer that a result gives to a call with the record c, and so for a call without one
pub record Said {R : Type 0} (c : R) (a : Answer R) : Type 0 where
  pub result : Result (Accepted R) Refusal
  pub says : answered c result ≡ a

pub record Told (a : Moved) : Type 0 where
  pub result : Result (Unit {0}) Refusal
  pub says : moved result ≡ a

abbrev pub Says : {R B : Type 0} → R → Outcome (Answer R) B → Type 0
Says c x = Said c x.answer

pub either : {X : Type 0} (P : X → Type 0) (t : Bool) {x y : X} → P x → P y → P (cond t x y)
either P true p q = p
either P false p q = q

module _ (c : Coder) (samples : List ℤ) (octets : List ℕ) where
  pub code_said : Said c (code_call c samples octets).answer
  unfolding code_call not_coded coded
  code_said =
      either (Says {B = List ℕ} c) (misfit (length samples) (length octets)) (record { result = Err Length; says = refl })
      (either (Says {B = List ℕ} c) (not (good_coder c)) (record { result = Err Record; says = refl })
      (either (Says {B = List ℕ} c) (ltb (first_bad samples) (length samples))
      (record { result = Err (Sample (first_bad samples)); says = refl })
      (record { result = Ok _; says = refl })))

module _ (d : Decoder) where
  pub decode_said : (told : ℕ) (octets : List ℕ) (samples : List ℤ) → Said d (decode_call d told octets samples).answer
  unfolding decode_call not_decoded decoded
  decode_said told octets samples =
      either (Says {B = List ℤ} d) (ltb 3 told) (record { result = Err Mode; says = refl })
      (either (Says {B = List ℤ} d) (misfit (length samples) (length octets)) (record { result = Err Length; says = refl })
      (either (Says {B = List ℤ} d) (not (good_decoder d)) (record { result = Err Record; says = refl })
      (record { result = Ok _; says = refl })))

  pub hear_said : (told : ℕ) (octets : List ℕ) (low high : List ℤ) → Said d (hear_call d told octets low high).answer
  unfolding hear_call not_heard heard
  hear_said told octets low high =
      either (Says {B = List ℤ × List ℤ} d) (ltb 3 told) (record { result = Err Mode; says = refl })
      (either (Says {B = List ℤ × List ℤ} d) (unpaired (length octets) (length low) (length high)) (record { result = Err Length; says = refl })
      (either (Says {B = List ℤ × List ℤ} d) (not (good_decoder d)) (record { result = Err Record; says = refl })
      (record { result = Ok _; says = refl })))

  pub join_said : (low high samples : List ℤ) → Said d (join_call d low high samples).answer
  unfolding join_call not_joined joined
  join_said low high samples =
      either (Says {B = List ℤ} d) (misfit (length samples) (length low) || not (eqb (length high) (length low)))
      (record { result = Err Length; says = refl })
      (either (Says {B = List ℤ} d) (not (good_decoder d)) (record { result = Err Record; says = refl })
      (either (Says {B = List ℤ} d) (ltb (first_bad_pair low high) (length low))
      (record { result = Err (Sample (first_bad_pair low high)); says = refl })
      (record { result = Ok _; says = refl })))

pub put_said : (mode : ℕ) (octets bytes : List ℕ) → Told (put_call mode octets bytes).answer
unfolding put_call data_call data_number
put_said mode octets bytes =
    either (λ n. Told (record { number = n; index = 0 })) (ltb 3 mode) (record { result = Err Mode; says = refl })
    (either (λ n. Told (record { number = n; index = 0 })) (ltb mode 2) (record { result = Err DataChannel; says = refl })
    (either (λ n. Told (record { number = n; index = 0 })) (unfilled mode (length octets) (length bytes))
    (record { result = Err Length; says = refl }) (record { result = Ok tt; says = refl })))
