use Rattle.std.proofs.Common.{ap, ◌∙◌}
use Rattle.reader.specs.Walk.{Step}
use Rattle.reader.proofs.Tells.{walked_next}
use Rattle.reader.proofs.next_at.Goals as goal

pub returns : goal.returns
returns c = walked_next c.step_at.result ∙ ap (λ (s : Step). s.next) c.step_at.ensures
