-- `sweep::poles::widened` meets its contract: its numbers have 16 bits, so they are widened as they are and their stops are idle.
use Rattle.std.proofs.Common.{rules}
use Rattle.idle.specs.Recursive.{poles_of, stop16}
use Rattle.sweep.proofs.poles.widened.Goals as goal

pub returns : goal.returns
unfolding poles_of
returns c = search (rules, stop16)
