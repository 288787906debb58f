-- What a port gives, and what it is sent.
-- Assumes nothing.
use Rattle.std.specs.Prelude.{ℕ, ℤ}
use Rattle.g722.specs.Arithmetic.{changes}
use Rattle.g722.specs.declared.Coder.{Coder}
use Rattle.g722.specs.declared.Decoder.{Decoder}
use Rattle.g722.specs.declared.Limited.{Limited}
use Rattle.conference.specs.Ports.{rl_from, rh_from, decoder_from, octet_to, coder_to}
use Rattle.port.specs.declared.Signals.{Signals}
use Rattle.port.specs.declared.Reply.{Reply}

unfoldable pub heard_of : Decoder → ℕ → ℕ → Signals
heard_of d told o = record { rl = rl_from d (told, o); rh = rh_from d o; next = decoder_from d o }

unfoldable pub sent_of : Coder → Limited → Limited → Reply
sent_of c xl xh =
    let sums : ℤ × ℤ = (xl.value, xh.value) in
    record { octet = octet_to c sums; limited = changes xl xh; next = coder_to c sums }
