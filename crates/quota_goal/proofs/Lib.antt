mod Placing
mod Bounding
mod Sharing
mod Least
pub mod Lemmas
mod Examples
