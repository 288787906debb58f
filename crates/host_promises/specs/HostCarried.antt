-- Octets of a host that carry data, and their decoding.
-- Assumes nothing.
use Rattle.std.specs.Prelude.{List, ℕ}
use Rattle.host.specs.Calls.{put_bytes}
use Rattle.host_promises.specs.Streams.{StoreInput}

-- octets that go together, with the data to be put into them, the mode for it, and the memory lent for their sample bytes
pub record HostParcel : Type 0 where
  pub octets : List ℕ
  pub mode : ℕ
  pub bytes : List ℕ
  pub samples : List ℕ

-- the octets with the data put in
abbrev pub host_laden : HostParcel → List ℕ
host_laden p = (put_bytes p.mode p.octets p.bytes).left

-- their decoding in that mode, with the data and without
abbrev pub host_with_data : HostParcel → StoreInput
host_with_data p = record { told = p.mode; octets = host_laden p; bytes = p.samples }

abbrev pub host_without_data : HostParcel → StoreInput
host_without_data p = record { told = p.mode; octets = p.octets; bytes = p.samples }
