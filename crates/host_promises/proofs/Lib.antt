-- The promises to a host that keeps the record as bytes: theorems over the definitions of `pcm`, `state`, `host` and `host_steps`, and over
-- the contracts of the functions that a host calls.
-- chunks of a stream
pub mod ChunksRefused
pub mod Streams
pub mod Fitting
-- the record as bytes
pub mod Kept
pub mod Packed
pub mod HostRefused
pub mod HostCalls
-- the two ends
pub mod HostEnds
pub mod HostResets
-- the two steps of decoding
pub mod HostStepsRefused
pub mod HostStepsLeft
pub mod HostSteps
pub mod HostInSteps
-- cue bits
pub mod HostUnheard
pub mod HostSignals
pub mod HostCarried
pub mod HostWitness
-- the running code
pub mod RunningHost
pub mod RunningHostResets
pub mod RunningHostData
pub mod AllowedHost
pub mod AllowedHostTurns
