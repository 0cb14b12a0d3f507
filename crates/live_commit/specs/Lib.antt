pub mod Slots
pub mod Setup
pub mod Checked
pub mod SetupView
pub mod Commit
pub mod Accepts
pub mod Accepted
