-- `at_hand::weights` meets its contract: each constant is what the printed column and the words' rule give, computed.
use Rattle.std.proofs.Common.{refl}
use Rattle.g722.specs.Tables.{wl, wh}
use Rattle.g722.specs.Words.{from_four, from_two}
use Rattle.at_hand.specs.Signed.{weight_at, weights_of}
use Rattle.at_hand.proofs.weights.Goals as goal

pub returns-then-high : goal.returns-then-high
unfolding weights_of weight_at from_two wh
returns-then-high c = rw c.if-high.true refl

pub returns-else-high : goal.returns-else-high
unfolding weights_of weight_at from_four wl
returns-else-high c = rw c.if-high.false refl
