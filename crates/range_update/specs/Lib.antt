pub mod Order
pub mod Updated
pub mod Kept
pub mod OpenPiece
