pub mod Lines
pub mod Voice
pub mod Written
pub mod Stage
pub mod Admin
pub mod Kept
pub mod Laws
