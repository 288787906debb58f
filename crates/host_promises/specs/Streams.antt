-- What a call that codes or decodes a chunk of a stream is handed beside the record.
-- Assumes nothing.
use Rattle.std.specs.Prelude.{List, ℕ}

pub record EncodeInput : Type 0 where
  pub bytes : List ℕ
  pub octets : List ℕ

pub record StoreInput : Type 0 where
  pub told : ℕ
  pub octets : List ℕ
  pub bytes : List ℕ
