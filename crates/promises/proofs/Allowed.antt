-- What the contracts allow is there to be had: whatever calls are asked for, some can be made as the contracts allow.
-- So the promises of the running code do not hold for want of a case.
-- Assumes nothing.
use Rattle.std.specs.Prelude.{◌≡◌, refl}
use mathlib.Core.List.{List, [], ◌∷◌, map}
use base.Logic.{emp}
use ghost.Model.{Res, 𝓤, model}
use contract.BorrowModel.{logic₀}
use Rattle.std.specs.Borrow.{Bor, MutBor}
use denote.Triple.Clauses.{Ended, Lasts, at_exit}
use Rattle.laws.specs.One.{Lifetimes, Input, Answer, Claims, Claim, Allows}
use Rattle.g722.specs.Records.{reset_coder, reset_decoder}
use Rattle.g722.specs.Coding.{code_call}
use Rattle.g722.specs.Decoding.{decode_call}
use Rattle.g722.specs.Cue.{put_call}
use Rattle.g722.specs.declared.Coder.{Coder}
use Rattle.g722.specs.declared.Decoder.{Decoder}
use Rattle.promises.proofs.Through.{Calls}
use Rattle.promises.proofs.Sequences.{CodeInput, DecodeInput}
use Rattle.promises.proofs.Carried.{Parcel}
use Rattle.promises.proofs.Made.{Made, MadeFrom}
use Rattle.promises.proofs.Running.{Reset_coder, Reset_decoder, Coding, Decoding}
use Rattle.promises.proofs.RunningLaws.{codings, decodings}
use Rattle.promises.proofs.RunningData.{Putting, Puts, parcel}
use Rattle.promises.proofs.Said.{code_said, decode_said, put_said}

-- a contract of one plain claim allows what meets the claim, in the logic's own model
pub allowed : {T : Ended} {φ : Claims T} {κs : Lifetimes T} {a : Input T κs} {r : Answer T κs} {l : Lasts T κs a}
    → φ κs a r (at_exit T κs a l) → Allows T (Claim T φ) κs a r l
allowed h =
    record {
      M = Res;
      𝓤 = 𝓤;
      𝓛 = logic₀;
      mem = model.mem;
      run = λ ρ vs K. emp 𝓤;
      ghost = tt;
      at = 𝓤.one;
      ensured = ∣ (h, tt) ∣₁;
    }

-- from any record a call can be made for any input
pub record Makes {C : Calls} (M : Made C) : Type 2 where
  pub make : C.State → C.Input → M.Call
  pub asked : (s : C.State) (k : C.Input) → M.input (make s k) ≡ k
  pub may : (s : C.State) (k : C.Input) → M.Allowed s (make s k)

-- so calls can be made one after the other
module _ {C : Calls} (M : Made C) (can : Makes M) where
  open can use {make, asked, may}

  pub all_made : (s : C.State) (ks : List C.Input) → (ms : List M.Call) × MadeFrom M s ms × (map M.input ms ≡ ks)
  unfolding MadeFrom
  all_made s [] = ([], tt, refl)
  all_made s (k ∷ ks) =
      let rest = all_made (C.next (M.answer (make s k))) ks in
      (make s k ∷ rest.0, (may s k, rest.1), λ i. asked s k i ∷ rest.2 i)

-- a value lent anywhere, to read or, under any name, to write
unfoldable pub lent : {X : Type 0} → X → Bor X
lent x = record { ref_ptr = (0, 0); now = x }

unfoldable pub lent_out : {X : Type 0} → X → MutBor X
lent_out x = record { ref_ptr = (0, 0); ghost_name = 0; now = x }

code : Coder → CodeInput → Coding
code c k =
    record {
      lifetimes = ([], ([], tt));
      given = c;
      samples = lent k.samples;
      octets = lent_out k.octets;
      answer = (code_said c k.samples k.octets).result;
      left = (code_call c k.samples k.octets).left;
    }

decode : Decoder → DecodeInput → Decoding
decode d k =
    record {
      lifetimes = ([], ([], tt));
      given = d;
      told = k.told;
      octets = lent k.octets;
      samples = lent_out k.samples;
      answer = (decode_said d k.told k.octets k.samples).result;
      left = (decode_call d k.told k.octets k.samples).left;
    }

put : Parcel → Putting
put x =
    record {
      lifetimes = ([], ([], tt));
      mode = x.mode;
      octets = lent_out x.octets;
      bytes = lent x.bytes;
      answer = (put_said x.mode x.octets x.bytes).result;
      left = (put_call x.mode x.octets x.bytes).left;
      samples = x.samples;
    }

pub makes_code : Makes codings
unfolding code lent lent_out
makes_code =
    record {
      make = code;
      asked = λ c k. refl;
      may = λ c k. (refl, allowed (record { answer = (code_said c k.samples k.octets).says; left = refl }));
    }

pub makes_decode : Makes decodings
unfolding decode lent lent_out
makes_decode =
    record {
      make = decode;
      asked = λ d k. refl;
      may = λ d k. (refl, allowed (record { answer = (decode_said d k.told k.octets k.samples).says; left = refl }));
    }

-- THE THEOREMS: both ends can be reset, any calls can be made at each, and any data can be put in
pub can_reset : Reset_coder reset_coder × Reset_decoder reset_decoder
can_reset = (allowed refl, allowed refl)

pub can_code : (c : Coder) (ks : List CodeInput) → (ms : List Coding) × MadeFrom codings c ms × (map codings.input ms ≡ ks)
can_code = all_made codings makes_code

pub can_decode : (d : Decoder) (ks : List DecodeInput) → (ms : List Decoding) × MadeFrom decodings d ms × (map decodings.input ms ≡ ks)
can_decode = all_made decodings makes_decode

pub can_put : (x : Parcel) → (p : Putting) × Puts p × (parcel p ≡ x)
unfolding put lent lent_out
can_put x = (put x, allowed (record { answer = (put_said x.mode x.octets x.bytes).says; left = refl }), refl)
