-- `pcm::decode_chunk` meets its contract: each way out is a case of the definition.
use mathlib.Core.Path.{refl, sym, ◌∙◌}
use native.Mathlib.Omega.{arith}
use Rattle.laws.specs.Outcome.{does}
use Rattle.pcm.specs.Chunks.{not_stored}
use Rattle.pcm.proofs.Calls.{decode_untold, decode_long, decode_uneven, decode_broken}
use Rattle.pcm.proofs.chunk.decode_chunk.Goals.{then-n-gt8000-via-then-n-gt8000, then-n-gt8000-via-else-n-gt8000+then-bytes-n}
use Rattle.pcm.proofs.chunk.decode_chunk.Goals as goal

pub returns-then-told-gt3 : goal.returns-then-told-gt3
unfolding not_stored
returns-then-told-gt3 c = does (decode_untold _ _ _ _ (omega arith)) refl refl

pub returns-then-n-gt8000 : goal.returns-then-n-gt8000
unfolding not_stored
returns-then-n-gt8000 c = elim c.then-n-gt8000.branch [
  | then-n-gt8000-via-then-n-gt8000 w ↦ does (decode_long _ _ _ _ (omega arith) (omega arith)) refl refl
  | then-n-gt8000-via-else-n-gt8000+then-bytes-n w ↦ does (decode_uneven _ _ _ _ (omega arith) (omega arith) w.if-bytes-n.true) refl refl
]

-- a broken record, of a long call
pub returns-then-not-good_decoder : goal.returns-then-not-good_decoder
unfolding not_stored
returns-then-not-good_decoder c =
    let bad = sym c.good_decoder.ensures ∙ c.if-not-good_decoder.true in
    does (decode_broken _ _ _ _ (omega arith) (omega arith) c.if-bytes-n.false bad) refl refl
