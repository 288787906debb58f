-- Whatever data is put into the octets on their way, the ends stay equal, and in the mode that it was put in for it is not heard.
-- Assumes nothing.
use Rattle.std.specs.Prelude.{◌≡◌, refl, ℕ, zero, suc, ◌*◌, take}
use Rattle.std.proofs.Common.{sym, ap, ap₂, ◌∙◌, arith, lt-ltb}
use mathlib.Core.List.{List, [], ◌∷◌, ◌++◌, map, flat_map, map-append}
use Rattle.g722.specs.Quantise.{in_force}
use Rattle.g722.specs.Records.{reset_coder, reset_decoder}
use Rattle.g722.specs.Coding.{coder_after}
use Rattle.g722.specs.Cue.{data_number, data_call, put_call}
use Rattle.facts.specs.Upper.{upper_six}
use Rattle.cue.specs.Round.{upper_kept, upper_six_kept}
use Rattle.g722.specs.declared.Decoder.{Decoder}
use Rattle.facts.specs.Told.{Told, decoder_run}
use Rattle.promises.proofs.Through.{answers}
use Rattle.promises.proofs.Sequences.{CodeInput, octets_through, samples_taken, decoding, samples_through}
use Rattle.promises.proofs.SameBands.{SameBands}
use Rattle.promises.proofs.Ends.{AsSent, ends_equal}
use Rattle.promises.proofs.Unheard.{heard_bits, Alike, AlikeCalls, none, more}
use Rattle.promises.proofs.UnheardLaws.{answers_unheard, samples_unheard}
use Rattle.promises.proofs.Carried.{Parcel, laden, with_data, without_data}

-- all upper six bits stay
pub six_kept : (ps : List Parcel) → map upper_six (flat_map laden ps) ≡ map upper_six (flat_map (λ p. p.octets) ps)
unfolding flat_map
six_kept [] = refl
six_kept (p ∷ ps) =
    map-append upper_six (laden p) (flat_map laden ps)
    ∙ ap₂ ◌++◌ (upper_six_kept p.mode p.octets p.bytes) (six_kept ps)
    ∙ sym (map-append upper_six p.octets (flat_map (λ (q : Parcel). q.octets) ps))

-- and what is heard stays: modes 2 and 3 hear what putting in keeps, and the others put nothing in
pub heard_kept : (mode : ℕ) (octets bytes : List ℕ) → Alike (in_force mode) (put_call mode octets bytes).left octets
unfolding in_force heard_bits put_call data_call data_number
heard_kept zero octets bytes = refl
heard_kept (suc zero) octets bytes = refl
heard_kept (suc (suc zero)) octets bytes = upper_kept 2 octets bytes
heard_kept (suc (suc (suc zero))) octets bytes = upper_kept 3 octets bytes
heard_kept (suc (suc (suc (suc m)))) octets bytes = rw (lt-ltb 3 (suc (suc (suc (suc m)))) (omega arith))

pub alike_calls : (ps : List Parcel) → AlikeCalls (map with_data ps) (map without_data ps)
alike_calls [] = none
alike_calls (p ∷ ps) = more (heard_kept p.mode p.octets p.bytes) refl (alike_calls ps)

-- THE THEOREM. What any calls from reset coded is cut into parcels, and any data is put into each in any mode, or none.
-- Wherever the first n octets came as they went out, both bands are the same at both ends after the n-th, whatever modes are told.
-- And from any record, each parcel decoded in the mode of its data gives the numbers, records and samples that it gives without
pub data_carried : (ks : List CodeInput) (ps : List Parcel) → octets_through reset_coder ks ≡ flat_map (λ p. p.octets) ps
    → ((ts : List Told) (n : ℕ) → AsSent n (flat_map laden ps) ts
    → SameBands (coder_after reset_coder (take (2 * n) (samples_taken reset_coder ks))) (decoder_run reset_decoder (take n ts)))
    × ((d : Decoder) → (answers decoding d (map with_data ps) ≡ answers decoding d (map without_data ps))
    × (samples_through d (map with_data ps) ≡ samples_through d (map without_data ps)))
data_carried ks ps e = (
  λ ts n f. ends_equal ks ts n (ap (λ l. take n (map upper_six l)) e ∙ ap (take n) (sym (six_kept ps)) ∙ f),
  λ d. (answers_unheard d (alike_calls ps), samples_unheard d (alike_calls ps)),
)
