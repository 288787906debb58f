-- Cue bits are never heard, in any sequence of calls.
-- Assumes nothing.
use Rattle.std.specs.Prelude.{◌≡◌, refl}
use mathlib.Core.List.{List}
use Rattle.std.proofs.Math.ListN.{length}
use Rattle.g722.specs.Quantise.{in_force}
use Rattle.g722.specs.declared.Decoder.{Decoder}
use Rattle.promises.proofs.Through.{answers}
use Rattle.promises.proofs.Alike.{Each, none as end, more as beside, answers_alike, state_alike, lefts_alike}
use Rattle.promises.proofs.Sequences.{DecodeInput, decoding, decoder_through, samples_through}
use Rattle.promises.proofs.Unheard.{Alike, AlikeCalls, none, more}
use Rattle.promises.proofs.UnheardCall.{call_unheard}

-- so call for call
abbrev Like : DecodeInput → DecodeInput → Type 0
Like k j =
    (k.told ≡ j.told) × Alike (in_force k.told) k.octets j.octets × (length k.samples ≡ length j.samples)

each : {ks js : List DecodeInput} → AlikeCalls ks js → Each Like ks js
each none = end
each (more a l rest) = beside (refl, a, l) (each rest)

alike_call : (d : Decoder) (k j : DecodeInput) → Like k j → let x = decoding.call d k in let y = decoding.call d j in
    (x.answer ≡ y.answer) × (x.answer.number ≡ 0 → x.left ≡ y.left)
alike_call d k j a = rw (← a.0) (call_unheard d k.told k.octets j.octets k.samples j.samples a.1 a.2)

-- THE THEOREMS, of any sequence of calls, also where the mode changes between calls and where some are refused:
-- from equal records the same number, count and record of each call, and the same samples of the accepted ones

pub answers_unheard : {ks js : List DecodeInput} (d : Decoder) → AlikeCalls ks js → answers decoding d ks ≡ answers decoding d js
answers_unheard d a = answers_alike decoding Like alike_call d (each a)

pub samples_unheard : {ks js : List DecodeInput} (d : Decoder) → AlikeCalls ks js → samples_through d ks ≡ samples_through d js
samples_unheard d a = lefts_alike decoding Like alike_call d (each a)

pub record_unheard : {ks js : List DecodeInput} (d : Decoder) → AlikeCalls ks js → decoder_through d ks ≡ decoder_through d js
record_unheard d a = state_alike decoding Like alike_call d (each a)
