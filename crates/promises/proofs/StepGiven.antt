-- Calls of both steps of decoding in any order: what they are given, sorted into octets and pairs of signals.
-- Assumes nothing.
use Rattle.std.specs.Prelude.{◌≡◌, refl, List, [], ◌∷◌, ◌++◌, map}
use Rattle.std.proofs.Common.{ap}
use Rattle.facts.specs.Told.{Told}
use Rattle.promises.proofs.StepRuns.{Heard}
use Rattle.promises.proofs.HearCalls.{HearInput, hearing}
use Rattle.promises.proofs.JoinCalls.{JoinInput, joining}

-- a call of either step
pub data StepInput : Type 0 where
  hear : HearInput → StepInput
  join : JoinInput → StepInput

-- what it is given: an octet with its mode, or a pair of signals
pub data StepGiven : Type 0 where
  octet : Told → StepGiven
  pair : Heard → StepGiven

unfoldable pub octets_in : List StepGiven → List Told
octets_in [] = []
octets_in (octet t ∷ gs) = t ∷ octets_in gs
octets_in (pair h ∷ gs) = octets_in gs

unfoldable pub pairs_in : List StepGiven → List Heard
pairs_in [] = []
pairs_in (octet t ∷ gs) = pairs_in gs
pairs_in (pair h ∷ gs) = h ∷ pairs_in gs

abbrev pub either : {X : Type 0} → (HearInput → X) → (JoinInput → X) → StepInput → X
either f g (hear k) = f k
either f g (join k) = g k

abbrev pub step_given : StepInput → List StepGiven
step_given = either (λ k. map octet (hearing.given k)) (λ k. map pair (joining.given k))

-- octets alone, pairs alone, and what is cut in two
pub octets_only : (ts : List Told) → (octets_in (map octet ts) ≡ ts) × (pairs_in (map octet ts) ≡ [])
unfolding octets_in pairs_in
octets_only [] = (refl, refl)
octets_only (t ∷ ts) = (ap (◌∷◌ t) (octets_only ts).0, (octets_only ts).1)

pub pairs_only : (hs : List Heard) → (octets_in (map pair hs) ≡ []) × (pairs_in (map pair hs) ≡ hs)
unfolding octets_in pairs_in
pairs_only [] = (refl, refl)
pairs_only (h ∷ hs) = ((pairs_only hs).0, ap (◌∷◌ h) (pairs_only hs).1)

pub sorted : (gs rest : List StepGiven)
    → (octets_in (gs ++ rest) ≡ octets_in gs ++ octets_in rest) × (pairs_in (gs ++ rest) ≡ pairs_in gs ++ pairs_in rest)
unfolding octets_in pairs_in
sorted [] rest = (refl, refl)
sorted (octet t ∷ gs) rest = (ap (◌∷◌ t) (sorted gs rest).0, (sorted gs rest).1)
sorted (pair h ∷ gs) rest = ((sorted gs rest).0, ap (◌∷◌ h) (sorted gs rest).1)
