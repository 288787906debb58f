-- `arith::limit` meets its contract: two numbers of 32 bits are one exactly if their words are.
use Rattle.std.proofs.Common.{◌∙◌, ap, ℤ, not, to_z-of_z}
use Rattle.laws.specs.Back.{back16}
use Rattle.g722.specs.Arithmetic.{equal, limit, limited}
use Rattle.arith.proofs.Words.{one_word}
use Rattle.arith.proofs.limit.Goals as goal

pub returns : goal.returns
unfolding limited limit
returns c =
    let value = back16 c.clamp-value.result c.clamp-value.type_inv ∙ c.clamp-value.ensures ∙ ap limit (to_z-of_z c.ranges.x) in
    let changed =
    one_word (record { sfits = c.from.type_inv }) c.ranges.x
    ∙ ap (λ (v : ℤ). equal v c.args.x) (c.from.ensures ∙ value) in
    λ i. record { value = value i; changed = not (changed i) }
