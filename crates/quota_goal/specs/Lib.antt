pub mod Goals
pub mod Next
pub mod Seen
pub mod Moment
pub mod Tuned
pub mod Kept
