-- The constant is the printed column, read at its place.
use Rattle.std.proofs.Common.{ap, ◌∙◌, arith}
use Rattle.std.specs.Option.{unwrap_or}
use Rattle.g722.specs.Tables.{ila}
use Rattle.ila.proofs.ila_at.Goals as goal

pub returns : goal.returns
unfolding ila
returns c = c.unwrap_or.ensures ∙ ap (λ o. unwrap_or o 0) c.copied.ensures ∙ c.get.ensures.lookup.4 (omega arith) 0
