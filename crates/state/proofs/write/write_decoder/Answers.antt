use Rattle.state.specs.Layout.{decoder_values, decoder_bytes}
use Rattle.state.proofs.write.write_decoder.Goals as goal

pub returns : goal.returns
unfolding decoder_bytes decoder_values
returns c = rw (← c.joined-past.ensures) c.write.ensures
