-- The decoder's own reset, and no take.
use Rattle.std.proofs.Common.{refl}
use Rattle.playing.specs.Play.{start_player}
use Rattle.player.proofs.start.Goals as goal

pub returns : goal.returns
unfolding start_player
returns c = rw c.reset.ensures refl
