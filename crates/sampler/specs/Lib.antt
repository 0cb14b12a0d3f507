pub mod Pick
pub mod Loaded
pub mod Counted
pub mod Draws
pub mod Seeds
