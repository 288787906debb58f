-- A run that is there: samples coded from reset with a refused call among them, data put in for modes 2 and 3, and all of it decoded.
-- So what the promises ask for can be had, and they do not hold for want of a case.
-- Assumes nothing.
use Rattle.std.specs.Prelude.{◌≡◌, pos, replicate}
use mathlib.Core.List.{List, [], ◌∷◌, map, flat_map}
use Rattle.g722.specs.Arithmetic.{neg}
use Rattle.g722.specs.Records.{reset_coder, reset_decoder}
use Rattle.g722.specs.Cue.{put_call}
use Rattle.g722.specs.Answers.{Coded, Decoded}
use Rattle.promises.proofs.Through.{answers}
use Rattle.promises.proofs.Sequences.{CodeInput, coding, octets_through, decoding, octets_taken}
use Rattle.promises.proofs.StepRuns.{received}
use Rattle.promises.proofs.Carried.{Parcel, laden, with_data}

-- four pairs, one with a sample out of range, and eight pairs
abbrev pub calls : List CodeInput
calls =
    record { samples = pos 0 ∷ pos 900 ∷ pos 2400 ∷ neg 300 ∷ neg 5000 ∷ pos 1 ∷ pos 7000 ∷ pos 16383 ∷ []; octets = replicate 4 0 }
    ∷ record { samples = pos 5 ∷ pos 16384 ∷ []; octets = replicate 1 7 }
    ∷ record {
      samples =
          neg 16384 ∷ neg 9000 ∷ pos 30 ∷ pos 31 ∷ pos 32 ∷ neg 12000 ∷ pos 8000 ∷ pos 8001
          ∷ pos 40 ∷ neg 41 ∷ pos 420 ∷ neg 4300 ∷ pos 14400 ∷ pos 450 ∷ pos 46 ∷ neg 4 ∷ [];
      octets = replicate 8 0;
    }
    ∷ []

-- what they sent, in two parcels: data for mode 3 in the first, for mode 2 in the second
abbrev pub parcels : List Parcel
parcels =
    record { octets = 0xFA ∷ 0x94 ∷ 0x20 ∷ 0x84 ∷ []; mode = 3; bytes = 0xB1 ∷ []; samples = replicate 8 (pos 0) }
    ∷ record {
      octets = 0x20 ∷ 0x84 ∷ 0x20 ∷ 0x84 ∷ 0x25 ∷ 0xB8 ∷ 0x07 ∷ 0x9A ∷ [];
      mode = 2;
      bytes = 0x81 ∷ [];
      samples = replicate 16 (pos 0);
    }
    ∷ []

-- the numbers of the coding calls and what they sent; of putting data in and what it left; of the decoding calls and what came
pub record Witnessed : Type 0 where
  pub codes : map (λ (a : Coded). a.number) (answers coding reset_coder calls) ≡ 0 ∷ 4 ∷ 0 ∷ []
  pub sends : octets_through reset_coder calls ≡ flat_map (λ p. p.octets) parcels
  pub puts : map (λ (p : Parcel). (put_call p.mode p.octets p.bytes).answer.number) parcels ≡ 0 ∷ 0 ∷ []
  pub carries : flat_map laden parcels ≡ 0xFA ∷ 0x97 ∷ 0x20 ∷ 0x85 ∷ 0x21 ∷ 0x84 ∷ 0x20 ∷ 0x84 ∷ 0x24 ∷ 0xB8 ∷ 0x06 ∷ 0x9B ∷ []
  pub decodes : map (λ (a : Decoded). a.number) (answers decoding reset_decoder (map with_data parcels)) ≡ 0 ∷ 0 ∷ []
  pub comes : received (octets_taken reset_decoder (map with_data parcels)) ≡ flat_map laden parcels
