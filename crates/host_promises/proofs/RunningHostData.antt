-- Coding, data, decoding by a host, of the running code: of whatever the contracts of `zelcandry_code`, `zelcandry_put` and
-- `zelcandry_decode` allow.
-- Assumes nothing.
use Rattle.std.specs.Prelude.{◌≡◌, refl, ℕ, ◌*◌, take}
use Rattle.std.proofs.Common.{sym, ap, ap₂, ◌∙◌}
use mathlib.Core.List.{List, [], ◌∷◌, ◌++◌, map, flat_map}
use base.Stored.{Coded-set, coded_ℕ, coded_list}
use Rattle.std.specs.Borrow.{Bor, MutBor}
use Rattle.laws.specs.One.{Allows, Lifetimes, claims}
use Rattle.host.specs.contracts as host
use Rattle.g722.specs.Records.{reset_coder, reset_decoder}
use Rattle.g722.specs.Coding.{coder_after}
use Rattle.facts.specs.Told.{decoder_run}
use Rattle.facts.specs.Upper.{upper_six}
use Rattle.state.specs.Layout.{coder_bytes, decoder_bytes}
use Rattle.state.specs.Reset.{reset_bytes}
use Rattle.promises.proofs.Ends.{AsSent}
use Rattle.promises.proofs.Made.{MadeFrom, last_of}
use Rattle.host_promises.specs.Streams.{StoreInput}
use Rattle.host_promises.specs.HostEnds.{bands}
use Rattle.host_promises.specs.HostCarried.{HostParcel, host_laden, host_with_data, host_without_data}
use Rattle.host_promises.proofs.HostCarried.{host_six_kept, host_alike}
use Rattle.host_promises.proofs.RunningHost.{HostCode, HostDecode, host_codes, host_decodes, sent_by, spoken_to, came_to, heard_from}
use Rattle.host_promises.proofs.RunningHost.{running_host_ends_equal, running_host_unheard}

-- a call of `zelcandry_put` that was made: the lifetimes and what was lent, the word that it answered and what it left; and the memory
-- that is lent later, when its octets are decoded
pub record HostPut : Type 0 where
  pub lifetimes : Lifetimes host.zelcandry_put.ended
  pub mode : ℕ
  pub octets : MutBor (List ℕ)
  pub bytes : Bor (List ℕ)
  pub word : ℕ
  pub left : List ℕ
  pub samples : List ℕ

abbrev pub HostPuts : HostPut → Type 2
HostPuts p =
    Allows host.zelcandry_put.ended (λ M 𝓤. host.zelcandry_put.clauses) p.lifetimes (p.mode, (p.octets, (p.bytes, tt))) p.word
    (tt, (p.left, (tt, tt)))

unfoldable pub AllHostPut : List HostPut → Type 2
AllHostPut [] = Unit {2}
AllHostPut (p ∷ ps) = HostPuts p × AllHostPut ps

abbrev pub host_parcel : HostPut → HostParcel
host_parcel p = record { octets = p.octets.now; mode = p.mode; bytes = p.bytes.now; samples = p.samples }

-- its octets decoded in the mode of the data, as they were left
abbrev pub host_as_left : HostPut → StoreInput
host_as_left p = record { told = p.mode; octets = p.left; bytes = p.samples }

-- ---- what was left is what the definition gives

did_put : (p : HostPut) → HostPuts p → p.left ≡ host_laden (host_parcel p)
did_put p h = claims (Coded-set (coded_list coded_ℕ) p.left (host_laden (host_parcel p))) h (λ e. e.left)

all_left : (ps : List HostPut) → AllHostPut ps → flat_map (λ p. p.left) ps ≡ flat_map host_laden (map host_parcel ps)
unfolding AllHostPut flat_map
all_left [] h = refl
all_left (p ∷ ps) h = ap₂ ◌++◌ (did_put p h.0) (all_left ps h.1)

all_asked : (ps : List HostPut) → AllHostPut ps → map host_as_left ps ≡ map host_with_data (map host_parcel ps)
unfolding AllHostPut
all_asked [] h = refl
all_asked (p ∷ ps) h =
    λ i. record { told = p.mode; octets = did_put p h.0 i; bytes = p.samples } ∷ all_asked ps h.1 i

-- THE THEOREMS. What coding calls from the reset bytes sent is cut anywhere, and data is put into each part, in any mode or none.

-- Wherever the first n octets came as they were left, the bytes of both bands are equal after the n-th, whatever modes were told
pub running_host_carried : (ks : List HostCode) (ps : List HostPut) (ds : List HostDecode)
    → MadeFrom host_codes (reset_bytes 1) ks → AllHostPut ps → MadeFrom host_decodes (reset_bytes 2) ds
    → sent_by ks ≡ flat_map (λ x. x.octets) (map host_parcel ps)
    → (n : ℕ) → AsSent n (flat_map (λ p. p.left) ps) (came_to ds)
    → bands (coder_bytes (coder_after reset_coder (take (2 * n) (spoken_to ks))))
    ≡ bands (decoder_bytes (decoder_run reset_decoder (take n (came_to ds))))
running_host_carried ks ps ds m h w e n f =
    let kept = host_six_kept (map host_parcel ps) ∙ ap (map upper_six) (sym e) in
    running_host_ends_equal ks ds m w n
    (ap (take n) (sym kept) ∙ ap (λ l. take n (map upper_six l)) (sym (all_left ps h)) ∙ f)

-- And decoded in the mode of their data the parts give the answers, the state bytes and the sample bytes that they give without it
pub running_host_data_unheard : (state : List ℕ) (ps : List HostPut) (ds js : List HostDecode)
    → AllHostPut ps → MadeFrom host_decodes state ds → MadeFrom host_decodes state js
    → map host_decodes.input ds ≡ map host_as_left ps → map host_decodes.input js ≡ map host_without_data (map host_parcel ps)
    → (map host_decodes.answer ds ≡ map host_decodes.answer js) × (heard_from ds ≡ heard_from js)
    × (last_of host_decodes state ds ≡ last_of host_decodes state js)
running_host_data_unheard state ps ds js h m w e f =
    running_host_unheard state ds js m w (rw (e, f, all_asked ps h) (host_alike (map host_parcel ps)))
