-- The promises of the conference desk: theorems over the definitions of `conference`, and over the contract of `mixer::tick`.
-- sequences of ticks
pub mod DeskCalls
pub mod DeskLamp
-- the legs
pub mod SameSignals
pub mod DeskEnds
-- the running code
pub mod RunningDesk
