mod Moving
mod Standing
mod Serving
mod Following
mod Balancing
mod Reaching
mod TouchedRuns
mod BySlot
mod Lasting
pub mod Lemmas
mod Examples
