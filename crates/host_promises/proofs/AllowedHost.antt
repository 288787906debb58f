-- What the contracts of a host's calls allow is there to be had: whatever calls are asked for, some can be made as the contracts allow.
-- Assumes nothing.
use Rattle.std.specs.Prelude.{◌≡◌, refl, List, [], map, ℕ}
use Rattle.host.specs.Calls.{code_bytes, decode_bytes, put_bytes}
use Rattle.promises.proofs.Made.{MadeFrom}
use Rattle.promises.proofs.Allowed.{allowed, Makes, all_made, lent, lent_out}
use Rattle.host_promises.specs.Streams.{EncodeInput, StoreInput}
use Rattle.host_promises.specs.HostCarried.{HostParcel}
use Rattle.host_promises.proofs.HostCalls.{returned}
use Rattle.host_promises.proofs.RunningHost.{HostCode, HostDecode, host_codes, host_decodes}
use Rattle.host_promises.proofs.RunningHostData.{HostPut, HostPuts, host_parcel}

code : List ℕ → EncodeInput → HostCode
code s k =
    let x = returned (code_bytes s k.bytes k.octets) in
    record {
      lifetimes = ([], ([], ([], tt)));
      state = lent_out s;
      samples = lent k.bytes;
      octets = lent_out k.octets;
      answer = x.answer;
      left = x.left;
    }

decode : List ℕ → StoreInput → HostDecode
decode s k =
    let x = returned (decode_bytes s k.told k.octets k.bytes) in
    record {
      lifetimes = ([], ([], ([], tt)));
      state = lent_out s;
      told = k.told;
      octets = lent k.octets;
      samples = lent_out k.bytes;
      answer = x.answer;
      left = x.left;
    }

put : HostParcel → HostPut
put x =
    let y = put_bytes x.mode x.octets x.bytes in
    record {
      lifetimes = ([], ([], tt));
      mode = x.mode;
      octets = lent_out x.octets;
      bytes = lent x.bytes;
      word = y.answer;
      left = y.left;
      samples = x.samples;
    }

pub makes_host_code : Makes host_codes
unfolding code lent lent_out
makes_host_code = record { make = code; asked = λ s k. refl; may = λ s k. (refl, allowed (record { answer = refl; left = refl })) }

pub makes_host_decode : Makes host_decodes
unfolding decode lent lent_out
makes_host_decode = record { make = decode; asked = λ s k. refl; may = λ s k. (refl, allowed (record { answer = refl; left = refl })) }

-- THE THEOREMS: any calls can be made at each end, from any state bytes, and any data can be put in
pub can_host_code : (state : List ℕ) (ks : List EncodeInput)
    → (ms : List HostCode) × MadeFrom host_codes state ms × (map host_codes.input ms ≡ ks)
can_host_code = all_made host_codes makes_host_code

pub can_host_decode : (state : List ℕ) (ks : List StoreInput)
    → (ms : List HostDecode) × MadeFrom host_decodes state ms × (map host_decodes.input ms ≡ ks)
can_host_decode = all_made host_decodes makes_host_decode

pub can_host_put : (x : HostParcel) → (p : HostPut) × HostPuts p × (host_parcel p ≡ x)
unfolding put lent lent_out
can_host_put x = (put x, allowed (record { answer = refl; left = refl }), refl)
