-- Whatever calls and resets are asked for, in whatever order, some can be made as the contracts allow: so the promises from the last reset
-- do not hold for want of a case.
-- Assumes nothing.
use Rattle.std.specs.Prelude.{◌≡◌, refl, List, [], ◌∷◌, map}
use Rattle.g722.specs.Records.{reset_coder, reset_decoder}
use Rattle.g722.specs.declared.Coder.{Coder}
use Rattle.g722.specs.declared.Decoder.{Decoder}
use Rattle.promises.proofs.Through.{Calls}
use Rattle.promises.proofs.Sequences.{CodeInput, DecodeInput}
use Rattle.promises.proofs.Turns.{Turn, reset, more, on_turn}
use Rattle.promises.proofs.Made.{Made}
use Rattle.promises.proofs.MadeTurns.{MadeTurns, none, afresh, called}
use Rattle.promises.proofs.Running.{Reset_coder, Reset_decoder}
use Rattle.promises.proofs.RunningLaws.{codings, decodings}
use Rattle.promises.proofs.Allowed.{Makes, makes_code, makes_decode, can_reset}

-- turns that were made from a record, each as it was asked for, and the record that they end with
pub record Turning {ℓ} {C : Calls} (M : Made C) (Reset : C.State → Type ℓ) (s : C.State) (ts : List (Turn C.Input))
    : Type (2 ⊔ ℓ) where
  pub turns : List (Turn M.Call)
  pub last : C.State
  pub made : MadeTurns M Reset s turns last
  pub as_asked : map (on_turn M.input) turns ≡ ts

module _ {ℓ} {C : Calls} (M : Made C) (can : Makes M) (Reset : C.State → Type ℓ) (start : C.State) (is-reset : Reset start) where
  open can use {make, asked, may}

  pub all_turns : (s : C.State) (ts : List (Turn C.Input)) → Turning M Reset s ts
  all_turns s [] = record { turns = []; last = s; made = none; as_asked = refl }
  all_turns s (reset ∷ ts) =
      let rest = all_turns start ts in
      record {
        turns = reset ∷ rest.turns;
        last = rest.last;
        made = afresh is-reset rest.made;
        as_asked = λ i. reset ∷ rest.as_asked i;
      }
  all_turns s (more k ∷ ts) =
      let rest = all_turns (C.next (M.answer (make s k))) ts in
      record {
        turns = more (make s k) ∷ rest.turns;
        last = rest.last;
        made = called (may s k) rest.made;
        as_asked = λ i. more (asked s k i) ∷ rest.as_asked i;
      }

-- THE THEOREMS: any calls and resets can be made at each end
pub can_code_turns : (c : Coder) (ts : List (Turn CodeInput)) → Turning codings Reset_coder c ts
can_code_turns = all_turns codings makes_code Reset_coder reset_coder can_reset.0

pub can_decode_turns : (d : Decoder) (ts : List (Turn DecodeInput)) → Turning decodings Reset_decoder d ts
can_decode_turns = all_turns decodings makes_decode Reset_decoder reset_decoder can_reset.1
