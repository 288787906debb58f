-- The definition looks for the same mode.
use Rattle.std.proofs.Common.{rules, tests, ◌≡◌, refl, ap, ◌∙◌, ℕ, List, [], ◌∷◌, ◌||◌, Bool, ltb}
use Rattle.std.specs.List.{list_any}
use Rattle.std.proofs.lemmas.Iterator.{YieldsList-from_slice}
use Rattle.std.proofs.lemmas.Iterator.Search.{any_from_yields_List}
use Rattle.conference.specs.Tick.{any_above}
use Rattle.mixer.proofs.check.any_above.Goals as goal

defined : (modes : List ℕ) → list_any (ltb 3) modes ≡ any_above modes
unfolding any_above
defined [] = refl
defined (told ∷ modes) = ap (λ (b : Bool). ltb 3 told || b) (defined modes)

pub returns : goal.returns
returns c =
    let modes = c.args.modes.now in
    any_from_yields_List (ltb 3) _ _ _ c.any.ensures.ran (YieldsList-from_slice modes cc) (λ x b q k. search (rules, tests)) ∙ defined modes
