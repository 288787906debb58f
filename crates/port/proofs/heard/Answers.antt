-- The signals and the bands are those of the sub-band decoders.
use Rattle.std.proofs.Common.{◌≡◌, ◌∙◌, ap, ℕ, rules}
use mir.Syntax.{w16}
use mir.Val.{to_z, of_z}
use Rattle.g722.specs.Arithmetic.{limited}
use Rattle.g722.specs.Decoding.{rl_of, rh_of}
use Rattle.g722.specs.Steps.{band_after, heard_after}
use Rattle.plain.specs.Step.{low_heard, high_heard}
use Rattle.conference.specs.Ports.{rl_from, rh_from, decoder_from}
use Rattle.port.specs.Step.{heard_of}
use Rattle.port.proofs.heard.Goals as goal

pub returns : goal.returns
unfolding heard_of rl_from rh_from decoder_from heard_after band_after low_heard high_heard rl_of rh_of limited
returns c =
    let low = c.low_heard-low.ensures ∙ ap (λ (m : ℕ). low_heard m c.args.d.low c.args.octet) c.in_force.ensures in
    let high = c.high_heard-high.ensures in
    let rl : to_z w16 (of_z w16 c.low_heard-low.result.signal.value) ≡ c.low_heard-low.result.signal.value = search rules in
    let rh : to_z w16 (of_z w16 c.high_heard-high.result.signal.value) ≡ c.high_heard-high.result.signal.value = search rules in
    λ i.
    record {
      rl = (rl ∙ λ j. (low j).signal.value) i;
      rh = (rh ∙ λ j. (high j).signal.value) i;
      next = record { low = (low i).next; high = (high i).next; past = c.args.d.past };
    }
