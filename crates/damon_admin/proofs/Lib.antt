pub mod Words
pub mod Steps
pub mod Places
pub mod Taking
pub mod Playing
pub mod Contexts
pub mod Puts
pub mod Ended
pub mod Speaking
pub mod Reports
pub mod Voices
pub mod Bounded
pub mod Going
pub mod Gathering
pub mod LineDone
mod Examples
