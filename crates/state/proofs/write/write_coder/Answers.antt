use Rattle.state.specs.Layout.{coder_values, coder_bytes}
use Rattle.state.proofs.write.write_coder.Goals as goal

pub returns : goal.returns
unfolding coder_bytes coder_values
returns c = c.write.ensures
