-- Coding, data, decoding: whatever data is put into the octets on their way, the ends stay equal, and in the mode that it was put in
-- for it is not heard.
-- Assumes nothing.
use Rattle.std.specs.Prelude.{ℕ, ℤ}
use mathlib.Core.List.{List}
use Rattle.g722.specs.Cue.{put_call}
use Rattle.promises.proofs.Sequences.{DecodeInput}

-- octets that go together, with the data to be put into them, the mode for it, and the memory lent for their samples.
-- Mode 0 or 1 puts none in
pub record Parcel : Type 0 where
  pub octets : List ℕ
  pub mode : ℕ
  pub bytes : List ℕ
  pub samples : List ℤ

-- the octets with the data put in
abbrev pub laden : Parcel → List ℕ
laden p = (put_call p.mode p.octets p.bytes).left

-- their decoding in that mode, with the data and without
abbrev pub with_data : Parcel → DecodeInput
with_data p = record { told = p.mode; octets = laden p; samples = p.samples }

abbrev pub without_data : Parcel → DecodeInput
without_data p = record { told = p.mode; octets = p.octets; samples = p.samples }
