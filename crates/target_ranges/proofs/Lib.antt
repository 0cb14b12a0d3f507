mod Last
mod Offsets
mod Accepted
mod Faults
mod Made
pub mod Lemmas
mod Examples
