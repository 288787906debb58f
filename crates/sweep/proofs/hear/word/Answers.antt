-- `sweep::hear::word` meets its contract: the shift is one by 4 or by none.
use Rattle.std.proofs.Common.{◌≡◌, refl, Bool, true, false, cond, ℕ, ◌^◌, ◌/◌, ◌%◌, arith, mod-lt}
use Rattle.sweep.specs.Octet.{word_in}
use Rattle.sweep.proofs.hear.word.Goals as goal

by : (t : Bool) (o : ℕ) → o / 2 ^ cond t 4 0 % 64 ≡ o / cond t 16 1 % 64
by true o = refl
by false o = refl

pub returns : goal.returns
unfolding word_in
returns c = (rw c.places.ensures (by c.args.high c.args.o), mod-lt _ (omega arith))
