-- Coding, data, decoding by a host: whatever data it puts into the octets on their way, the ends stay equal, and in the mode that it was
-- put in for it is not heard.
-- Assumes nothing.
use Rattle.std.specs.Prelude.{◌≡◌, refl, ℕ, ◌*◌, take}
use Rattle.std.proofs.Common.{sym, ap, ap₂, ◌∙◌}
use mathlib.Core.List.{List, [], ◌∷◌, ◌++◌, map, flat_map, map-append}
use Rattle.g722.specs.Records.{reset_coder, reset_decoder}
use Rattle.g722.specs.Coding.{coder_after}
use Rattle.cue.specs.Round.{upper_six_kept}
use Rattle.facts.specs.Told.{Told, decoder_run}
use Rattle.facts.specs.Upper.{upper_six}
use Rattle.state.specs.Layout.{coder_bytes, decoder_bytes}
use Rattle.state.specs.Reset.{reset_bytes}
use Rattle.host.specs.Calls.{after_data, put_bytes}
use Rattle.promises.proofs.Through.{through, answers}
use Rattle.promises.proofs.Ends.{AsSent}
use Rattle.promises.proofs.CarriedLaws.{heard_kept}
use Rattle.promises.proofs.Alike.{Each, none, more}
use Rattle.host_promises.specs.Streams.{EncodeInput}
use Rattle.host_promises.specs.HostEnds.{bands}
use Rattle.host_promises.specs.HostCarried.{HostParcel, host_laden, host_with_data, host_without_data}
use Rattle.host_promises.proofs.HostCalls.{host_sent, host_spoken, host_decoding, host_heard}
use Rattle.host_promises.proofs.HostEnds.{host_ends_equal}
use Rattle.host_promises.proofs.HostUnheard.{AlikeInput, host_answers_unheard, host_state_unheard, host_samples_unheard}

-- all upper six bits stay, and so does what is heard
pub host_six_kept : (ps : List HostParcel) → map upper_six (flat_map host_laden ps) ≡ map upper_six (flat_map (λ p. p.octets) ps)
unfolding flat_map put_bytes after_data
host_six_kept [] = refl
host_six_kept (p ∷ ps) =
    map-append upper_six (host_laden p) (flat_map host_laden ps)
    ∙ ap₂ ◌++◌ (upper_six_kept p.mode p.octets p.bytes) (host_six_kept ps)
    ∙ sym (map-append upper_six p.octets (flat_map (λ (q : HostParcel). q.octets) ps))

pub host_alike : (ps : List HostParcel) → Each AlikeInput (map host_with_data ps) (map host_without_data ps)
unfolding put_bytes after_data
host_alike [] = none
host_alike (p ∷ ps) =
    more (record { told = refl; octets = heard_kept p.mode p.octets p.bytes; bytes = refl }) (host_alike ps)

-- THE THEOREMS. What any calls of a host from the reset bytes coded is cut into parcels, and any data is put into each in any mode, or
-- none. Wherever the first n octets came as they went out, the bytes of both bands are the same at both ends after the n-th ..
pub host_data_carried : (ks : List EncodeInput) (ps : List HostParcel) → host_sent (reset_bytes 1) ks ≡ flat_map (λ p. p.octets) ps
    → (ts : List Told) (n : ℕ) → AsSent n (flat_map host_laden ps) ts
    → bands (coder_bytes (coder_after reset_coder (take (2 * n) (host_spoken (reset_bytes 1) ks))))
    ≡ bands (decoder_bytes (decoder_run reset_decoder (take n ts)))
host_data_carried ks ps e ts n f =
    host_ends_equal ks ts n (ap (λ l. take n (map upper_six l)) e ∙ ap (take n) (sym (host_six_kept ps)) ∙ f)

-- .. and from any state bytes, each parcel decoded in the mode of its data gives the answers, state and sample bytes that it gives
-- without
pub host_data_unheard : (state : List ℕ) (ps : List HostParcel)
    → (answers host_decoding state (map host_with_data ps) ≡ answers host_decoding state (map host_without_data ps))
    × (through host_decoding state (map host_with_data ps) ≡ through host_decoding state (map host_without_data ps))
    × (host_heard state (map host_with_data ps) ≡ host_heard state (map host_without_data ps))
host_data_unheard state ps =
    let a = host_alike ps in (host_answers_unheard state a, host_state_unheard state a, host_samples_unheard state a)
