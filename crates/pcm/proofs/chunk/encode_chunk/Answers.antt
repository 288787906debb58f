-- `pcm::encode_chunk` meets its contract: each way out is a case of the definition.
use mathlib.Core.Path.{refl, sym, ◌∙◌}
use native.Mathlib.Omega.{arith}
use Rattle.laws.specs.Outcome.{does}
use Rattle.g722.specs.Coding.{not_coded}
use Rattle.pcm.proofs.Calls.{encode_long, encode_uneven, encode_broken}
use Rattle.pcm.proofs.chunk.encode_chunk.Goals.{then-n-gt8000-via-then-n-gt8000, then-n-gt8000-via-else-n-gt8000+then-bytes-n}
use Rattle.pcm.proofs.chunk.encode_chunk.Goals as goal

pub returns-then-n-gt8000 : goal.returns-then-n-gt8000
unfolding not_coded
returns-then-n-gt8000 c = elim c.then-n-gt8000.branch [
  | then-n-gt8000-via-then-n-gt8000 w ↦ does (encode_long _ _ _ (omega arith)) refl refl
  | then-n-gt8000-via-else-n-gt8000+then-bytes-n w ↦ does (encode_uneven _ _ _ w.if-bytes-n.true) refl refl
]

-- a broken record, of a long call
pub returns-then-not-good_coder : goal.returns-then-not-good_coder
unfolding not_coded
returns-then-not-good_coder c =
    does (encode_broken _ _ _ (omega arith) c.if-bytes-n.false (sym c.good_coder.ensures ∙ c.if-not-good_coder.true)) refl refl
