-- Where a take begins, sentence by sentence: at block 0, at another take than that of the block before, at the first block of all, and
-- nowhere else.
-- Assumes nothing.
use Rattle.std.specs.Prelude.{◌≡◌, refl, true, false}
use Rattle.std.proofs.Math.Bool.{or-true}
use Rattle.std.proofs.Common.{eq-eqb, ne_eqb}
use Rattle.g722.specs.Records.{reset_decoder}
use Rattle.block.specs.Read.{BlockRead}
use Rattle.playing.specs.declared.Player.{Player}
use Rattle.playing.specs.Play.{start_player, begins, afresh, decoder_for}

-- a block numbered 0 resets the decoder before its octets
pub reset_at_0 : (p : Player) (b : BlockRead) → b.block ≡ 0 → decoder_for p b ≡ reset_decoder
unfolding decoder_for afresh begins
reset_at_0 p b z = rw (eq-eqb b.block 0 z, or-true)

-- and so does a block whose take differs from that of the block before
pub reset_at_another_take : (p : Player) (b : BlockRead) → (b.take ≡ p.take → ⊥) → decoder_for p b ≡ reset_decoder
unfolding decoder_for afresh begins
reset_at_another_take p b n = rw (ne_eqb b.take p.take n, or-true, or-true)

-- before the first block there was none
pub none_before : start_player.begun ≡ false
unfolding start_player
none_before = refl

-- so it starts from reset anyway
pub reset_at_first : (p : Player) (b : BlockRead) → p.begun ≡ false → decoder_for p b ≡ reset_decoder
unfolding decoder_for afresh
reset_at_first p b f = rw f

-- every other block goes on from the record that the block before left
pub goes_on_lem : (p : Player) (b : BlockRead) → p.begun ≡ true → b.take ≡ p.take → (b.block ≡ 0 → ⊥) → decoder_for p b ≡ p.decoder
unfolding decoder_for afresh begins
goes_on_lem p b t e n = rw (t, eq-eqb b.take p.take e, ne_eqb b.block 0 n)
