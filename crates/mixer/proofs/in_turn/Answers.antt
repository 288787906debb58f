-- `mixer::in_turn` meets its contract: what is sent is made of what was heard.
use mathlib.Core.Path.{ap, ◌∙◌}
use mathlib.Core.List.{List, zip, zip_with}
use lib.IntN.{ℤ}
use Rattle.conference.specs.Sums.{mixed}
use Rattle.conference.specs.Ports.{octet_to, coder_to, each_port}
use Rattle.conference.specs.Tick.{signals_to, octets_to, desk_after, sums_limited, tick_limited, ticked}
use Rattle.mixer.proofs.in_turn.Goals as goal

pub returns : goal.returns
unfolding ticked tick_limited desk_after octets_to signals_to
returns c =
    let desk = c.args.desk in
    let heard = c.hear_all-decoders.ensures in
    let sent = c.send_all-sent.ensures in
    let signals = ap (λ (l : List ℤ × List ℤ). zip (mixed l.0) (mixed l.1)) heard.left in
    let coders = (λ j. (sent.answer j).coders) ∙ ap (each_port coder_to desk.coders) signals in
    let count = (λ j. (sent.answer j).limited) ∙ ap (λ (l : List ℤ × List ℤ). sums_limited l.0 l.1) heard.left in
    record {
      answer = λ i. record {
        number = 0;
        index = 0;
        limited = count i;
        next = record { ports = desk.ports; coders = coders i; decoders = heard.answer i };
      };
      left = sent.left ∙ ap (zip_with octet_to desk.coders) signals;
    }
