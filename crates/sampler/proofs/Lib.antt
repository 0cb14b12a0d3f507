mod Picking
mod Raised
mod Loading
mod Words
pub mod Lemmas
