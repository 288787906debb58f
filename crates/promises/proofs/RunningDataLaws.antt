-- Coding, data, decoding, of the running code.
-- Assumes nothing.
use Rattle.std.specs.Prelude.{◌≡◌, refl, ℕ, ◌*◌, take}
use Rattle.std.proofs.Common.{sym, ap, ap₂, ◌∙◌}
use mathlib.Core.List.{List, [], ◌∷◌, ◌++◌, map, flat_map}
use base.Stored.{Coded-set, coded_ℕ, coded_list}
use Rattle.laws.specs.One.{claims}
use Rattle.g722.specs.Coding.{coder_after}
use Rattle.facts.specs.Upper.{upper_six}
use Rattle.g722.specs.declared.Coder.{Coder}
use Rattle.g722.specs.declared.Decoder.{Decoder}
use Rattle.facts.specs.Told.{decoder_run}
use Rattle.promises.proofs.SameBands.{SameBands}
use Rattle.promises.proofs.Ends.{AsSent}
use Rattle.promises.proofs.Carried.{laden, with_data, without_data}
use Rattle.promises.proofs.CarriedLaws.{six_kept, alike_calls}
use Rattle.promises.proofs.Made.{MadeFrom, last_of}
use Rattle.promises.proofs.Running.{Reset_coder, Reset_decoder, Coding, Decoding}
use Rattle.promises.proofs.RunningLaws.{codings, decodings, sent, spoken, came, heard, running_ends_equal}
use Rattle.promises.proofs.RunningUnheard.{running_unheard}
use Rattle.promises.proofs.RunningData.{Putting, Puts, AllPut, parcel, as_left}

-- ---- what was left is what the definition gives

did_put : (p : Putting) → Puts p → p.left ≡ laden (parcel p)
did_put p h = claims (Coded-set (coded_list coded_ℕ) p.left (laden (parcel p))) h (λ e. e.left)

all_left : (ps : List Putting) → AllPut ps → flat_map (λ p. p.left) ps ≡ flat_map laden (map parcel ps)
unfolding AllPut flat_map
all_left [] h = refl
all_left (p ∷ ps) h = ap₂ ◌++◌ (did_put p h.0) (all_left ps h.1)

all_asked : (ps : List Putting) → AllPut ps → map as_left ps ≡ map with_data (map parcel ps)
unfolding AllPut
all_asked [] h = refl
all_asked (p ∷ ps) h =
    λ i. record { told = p.mode; octets = did_put p h.0 i; samples = p.samples } ∷ all_asked ps h.1 i

-- THE THEOREMS. What coding calls from reset sent is cut anywhere, and data is put into each part, in any mode or none.

-- Wherever the first n octets came as they were left, the ends are equal after the n-th, whatever modes were told
pub running_carried : (c : Coder) (d : Decoder) → Reset_coder c → Reset_decoder d
    → (ks : List Coding) (ps : List Putting) (ds : List Decoding) → MadeFrom codings c ks → AllPut ps → MadeFrom decodings d ds
    → sent ks ≡ flat_map (λ x. x.octets) (map parcel ps)
    → (n : ℕ) → AsSent n (flat_map (λ p. p.left) ps) (came ds)
    → SameBands (coder_after c (take (2 * n) (spoken ks))) (decoder_run d (take n (came ds)))
running_carried c d a b ks ps ds m h w e n f =
    let kept = six_kept (map parcel ps) ∙ ap (map upper_six) (sym e) in
    running_ends_equal c d a b ks ds m w n
    (ap (take n) (sym kept) ∙ ap (λ l. take n (map upper_six l)) (sym (all_left ps h)) ∙ f)

-- And decoded in the mode of their data the parts give the numbers, the records and the samples that they give without it
pub running_data_unheard : (d : Decoder) (ps : List Putting) (ds js : List Decoding)
    → AllPut ps → MadeFrom decodings d ds → MadeFrom decodings d js
    → map decodings.input ds ≡ map as_left ps → map decodings.input js ≡ map without_data (map parcel ps)
    → (map decodings.answer ds ≡ map decodings.answer js) × (heard ds ≡ heard js) × (last_of decodings d ds ≡ last_of decodings d js)
running_data_unheard d ps ds js h m w e f =
    running_unheard d ds js m w (rw (e, f, all_asked ps h) (alike_calls (map parcel ps)))
