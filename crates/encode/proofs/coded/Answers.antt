use Rattle.std.proofs.Common.{ℕ, ◌≤◌, Result, Ok, Err, IfErr}
use Rattle.g722.specs.Answers.{answered}
use Rattle.g722.specs.Refused.{index_of}
use Rattle.g722.specs.declared.Accepted.{Accepted}
use Rattle.g722.specs.declared.Coder.{Coder}
use Rattle.g722.specs.declared.Refusal.{Refusal}
use Rattle.pcm.specs.Chunks.{index_within}
use Rattle.encode.proofs.coded.Goals as goal

within : (c : Coder) (r : Result (Accepted Coder) Refusal) (n : ℕ) → (answered c r).index ≤ n → IfErr r (λ x. index_of x ≤ n)
within c (Ok a) n h = tt
within c (Err x) n h = h

-- the index of a refusal lies in the chunk
pub returns : goal.returns
returns c = within c.args.c _ _ (rw c.encode_chunk.ensures.answer (index_within _ _ _))
