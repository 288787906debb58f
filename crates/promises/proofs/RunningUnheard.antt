-- Cue bits are never heard, of the running code.
-- Assumes nothing.
use Rattle.std.specs.Prelude.{◌≡◌, List, map}
use Rattle.std.proofs.Common.{sym, ◌∙◌}
use Rattle.g722.specs.declared.Decoder.{Decoder}
use Rattle.promises.proofs.Unheard.{AlikeCalls}
use Rattle.promises.proofs.UnheardLaws.{answers_unheard, samples_unheard, record_unheard}
use Rattle.promises.proofs.Made.{MadeFrom, last_of}
use Rattle.promises.proofs.MadeLaws.{made_record, made_answers, made_left}
use Rattle.promises.proofs.Running.{Decoding}
use Rattle.promises.proofs.RunningLaws.{decodings, heard}

-- from equal records, calls that differ in cue bits alone: the same answers, the same samples, the same record
pub running_unheard : (d : Decoder) (ks js : List Decoding) → MadeFrom decodings d ks → MadeFrom decodings d js
    → AlikeCalls (map decodings.input ks) (map decodings.input js)
    → (map decodings.answer ks ≡ map decodings.answer js) × (heard ks ≡ heard js) × (last_of decodings d ks ≡ last_of decodings d js)
running_unheard d ks js m w a = (
  made_answers decodings d ks m ∙ answers_unheard d a ∙ sym (made_answers decodings d js w),
  made_left decodings d ks m ∙ samples_unheard d a ∙ sym (made_left decodings d js w),
  made_record decodings d ks m ∙ record_unheard d a ∙ sym (made_record decodings d js w),
)
