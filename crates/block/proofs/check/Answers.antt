-- `block::check` meets its contract: it is the fold of its steps.
use Rattle.std.proofs.Common.{◌≡◌, refl, ◌∙◌, rules, List, [], ◌∷◌, ℕ, fold}
use Rattle.std.proofs.lemmas.Iterator.{YieldsList-from_slice}
use Rattle.std.proofs.lemmas.Iterator.Consumers.{fold_from_yields_List}
use Rattle.block.specs.Check.{byte_step, check_from, check}
use Rattle.block.proofs.check.Goals as goal

folded : (reg : ℕ) (bytes : List ℕ) → fold byte_step reg bytes ≡ check_from reg bytes
unfolding check_from
folded reg [] = refl
folded reg (byte ∷ rest) = folded (byte_step reg byte) rest

pub returns : goal.returns
unfolding check
returns c =
    fold_from_yields_List _ byte_step 65535 c.fold.result c.fold.ensures.ran
    (YieldsList-from_slice c.args.bytes.now cc) (λ a x r q k. search rules)
    ∙ folded 65535 c.args.bytes.now
