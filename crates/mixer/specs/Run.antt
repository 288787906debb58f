-- What the parts of a tick give back.
-- Assumes nothing.
use mathlib.Core.List.{List, zip, zip_with}
use Rattle.std.specs.Prelude.{ℕ, ℤ}
use Rattle.laws.specs.Outcome.{Outcome}
use Rattle.g722.specs.declared.Coder.{Coder}
use Rattle.g722.specs.declared.Decoder.{Decoder}
use Rattle.conference.specs.Sums.{mixed}
use Rattle.conference.specs.Ports.{rls_from, rhs_from, decoder_from, octet_to, coder_to, each_port}
use Rattle.conference.specs.Tick.{sums_limited}
use Rattle.mixer.specs.declared.Mixed.{Mixed}

abbrev pub hear_run : List Decoder → List ℕ → List ℕ → Outcome (List Decoder) (List ℤ × List ℤ)
hear_run decoders modes octets =
    record { answer = each_port decoder_from decoders octets; left = (rls_from decoders modes octets, rhs_from decoders octets) }

abbrev pub send_run : List Coder → List ℤ → List ℤ → Outcome Mixed (List ℕ)
send_run coders low high =
    record {
      answer = record { limited = sums_limited low high; coders = each_port coder_to coders (zip (mixed low) (mixed high)) };
      left = zip_with octet_to coders (zip (mixed low) (mixed high));
    }
