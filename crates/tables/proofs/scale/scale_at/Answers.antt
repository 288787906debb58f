-- `tables::scale_at` meets its contract: the table of 353 by the rule that gives each of its entries, and 4 above it.
use Rattle.std.proofs.Common.{◌≡◌, ◌∙◌, ap, subst, sym, arith, ℕ, ◌+◌, ◌*◌, ◌/◌, ◌%◌, ◌^◌, ◌<◌, pos, get_or}
use Rattle.std.proofs.lemmas.Int.{to_z_pos}
use Rattle.std.specs.Int.{w16}
use Rattle.g722.specs.Tables.{ila}
use Rattle.g722.specs.Quantise.{scale_at}
use Rattle.tables.specs.Entries.{above_table, ila_small}
use Rattle.tables.specs.Rows.{by_method_2}
use Rattle.tables.proofs.scale.scale_at.Goals as goal

pub returns-then-k-gt-TOP : goal.returns-then-k-gt-TOP
unfolding scale_at ila
returns-then-k-gt-TOP c = ap (λ (x : ℕ). pos ((x + 1) * 4)) (above_table ila 0 c.args.k (omega arith))

fits : (k : ℕ) → (get_or ila k 0 + 1) * 4 < 2 ^ 15
fits k = let h = ila_small k in omega arith

-- what the code works out
is : (c : goal.After-ilb_at) → c.ilb_at.result * 2 ^ (c.args.k / 32) % 2 ^ 32 / 1024 * 4 ≡ (get_or ila c.args.k 0 + 1) * 4
is c = by_method_2 c.args.k c.ilb_at.result (omega arith) c.ilb_at.ensures

pub overflow_cast-result-else-k-gt-TOP : goal.overflow_cast-result-else-k-gt-TOP
overflow_cast-result-else-k-gt-TOP c = record { sfits = subst (λ (n : ℕ). n < 2 ^ 15) (sym (is c)) (fits c.args.k) }

pub returns-else-k-gt-TOP : goal.returns-else-k-gt-TOP
unfolding scale_at
returns-else-k-gt-TOP c = to_z_pos w16 _ (overflow_cast-result-else-k-gt-TOP c).sfits ∙ ap pos (is c)
