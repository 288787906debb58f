-- What the promises to a host that keeps the record as bytes speak of; the theorems stand in proofs/.
-- chunks of a stream
pub mod Streams
-- the two ends
pub mod HostEnds
-- the two steps of decoding
pub mod HostSteps
-- cue bits
pub mod HostCarried
