-- Demand 3, its first half, over calls of decoding's steps from reset: the first step alone, and both in any order. Only the octets that
-- were heard tell, and not the modes, nor which signals were joined, nor when.
-- Assumes nothing.
use Rattle.std.specs.Prelude.{◌≡◌, List, map, ℕ, ◌*◌, length, take}
use Rattle.g722.specs.Records.{reset_coder, reset_decoder}
use Rattle.g722.specs.Coding.{coder_after}
use Rattle.g722.specs.Steps.{heard_after, joined_after}
use Rattle.g722.specs.declared.Coder.{Coder}
use Rattle.facts.specs.Upper.{upper_six}
use Rattle.promises.proofs.Through.{through}
use Rattle.promises.proofs.StepRuns.{received}
use Rattle.promises.proofs.Sequences.{CodeInput, coder_through, octets_through, samples_taken, coder_as_one_run, octets_as_one_run}
use Rattle.promises.proofs.HearCalls.{HearInput, hear_through, octets_heard, hear_as_one_run}
use Rattle.promises.proofs.StepGiven.{StepInput}
use Rattle.promises.proofs.StepOrder.{stepping, octets_stepped, steps_record}
use Rattle.promises.proofs.SameBands.{SameBands}
use Rattle.promises.proofs.Ends.{heard_behind, heard_at_end, reset_same}

module _ (ks : List CodeInput) where
  -- the octets came as they were sent, as far as they came, or all of them: as far as their upper six bits go
  abbrev pub CameBehind : List ℕ → Type 0
  CameBehind os = take (length os) (map upper_six (octets_through reset_coder ks)) ≡ take (length os) (map upper_six os)

  abbrev pub CameAll : List ℕ → Type 0
  CameAll os = map upper_six (octets_through reset_coder ks) ≡ map upper_six os

  -- the coder's record after as many octets as came
  abbrev pub coder_behind : List ℕ → Coder
  coder_behind os = coder_after reset_coder (take (2 * length os) (samples_taken reset_coder ks))

  behind : (os : List ℕ) → CameBehind os → SameBands (coder_behind os) (heard_after reset_decoder os)
  behind os e = heard_behind reset_coder reset_decoder _ os reset_same (rw (octets_as_one_run reset_coder ks) at e)

  all : (os : List ℕ) → CameAll os → SameBands (coder_through reset_coder ks) (heard_after reset_decoder os)
  all os e =
      rw (coder_as_one_run reset_coder ks)
      (heard_at_end reset_coder reset_decoder _ os reset_same (rw (octets_as_one_run reset_coder ks) at e))

  -- THE THEOREMS, of calls of the first step: while they are behind what was sent, and where all of it has come
  module _ (hs : List HearInput) where
    abbrev heard : List ℕ
    heard = received (octets_heard reset_decoder hs)

    pub hear_record_behind : CameBehind heard → SameBands (coder_behind heard) (hear_through reset_decoder hs)
    hear_record_behind e = rw (hear_as_one_run reset_decoder hs) (behind heard e)

    pub hear_records_equal : CameAll heard → SameBands (coder_through reset_coder ks) (hear_through reset_decoder hs)
    hear_records_equal e = rw (hear_as_one_run reset_decoder hs) (all heard e)

  -- and of calls of both steps
  module _ (ss : List StepInput) where
    abbrev stepped : List ℕ
    stepped = received (octets_stepped reset_decoder ss)

    pub steps_record_behind : CameBehind stepped → SameBands (coder_behind stepped) (through stepping reset_decoder ss)
    unfolding joined_after
    steps_record_behind e = let b = behind stepped e in rw (steps_record reset_decoder ss) (record { low = b.low; high = b.high })

    pub steps_records_equal : CameAll stepped → SameBands (coder_through reset_coder ks) (through stepping reset_decoder ss)
    unfolding joined_after
    steps_records_equal e = let b = all stepped e in rw (steps_record reset_decoder ss) (record { low = b.low; high = b.high })
