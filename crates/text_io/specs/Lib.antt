pub mod Given
pub mod Taken
pub mod Ends
pub mod Pumped
