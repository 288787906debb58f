-- The octet and both bands are those of the sub-band coders.
use Rattle.std.proofs.Common.{◌≡◌, rules}
use Rattle.plain.specs.Step.{bands_coded}
use Rattle.conference.specs.Ports.{octet_to, coder_to}
use Rattle.port.specs.Step.{sent_of}
use Rattle.port.proofs.sent.Goals as goal

pub returns : goal.returns
unfolding sent_of octet_to coder_to bands_coded
returns c =
    let a = c.args in
    let coded : c.bands_coded-coded.result ≡ bands_coded a.c.low a.c.high a.xl.value a.xh.value = search rules in
    λ i.
    record {
      octet = (coded i).octet;
      limited = c.changes.ensures i;
      next = record { low = (coded i).low; high = (coded i).high; past = a.c.past };
    }
