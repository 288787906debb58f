-- What playing answers tells its result.
use Rattle.std.proofs.Common.{◌≡◌, Result, Ok, Err, sym, ap, ◌∙◌}
use Rattle.g722.proofs.Tells.{result_of, accepted_back, refused_back}
use Rattle.g722.specs.declared.Refusal.{Refusal}
use Rattle.playing.specs.Answer.{Played, played_as}
use Rattle.playing.specs.declared.PlayedBlock.{PlayedBlock}
use Rattle.playing.specs.declared.Player.{Player}

-- what is said of a block that was played
abbrev block_of : Played → PlayedBlock
block_of a =
    record {
      next = a.next;
      header = record { take = a.take; block = a.block; mode = a.mode; count = a.count };
      first = a.first;
      last = a.last;
      limited = a.limited;
    }

played_back : (p : Player) (r : Result PlayedBlock Refusal) → result_of (played_as p r).number (played_as p r).index (block_of (played_as p r)) ≡ r
played_back p (Ok b) = accepted_back b
played_back p (Err r) = refused_back r (block_of (played_as p (Err r)))

pub played_tells : (p : Player) (r s : Result PlayedBlock Refusal) → played_as p r ≡ played_as p s → r ≡ s
played_tells p r s e = sym (played_back p r) ∙ (ap (λ a. result_of a.number a.index (block_of a)) e ∙ played_back p s)
