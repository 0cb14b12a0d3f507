pub mod InSpace
pub mod Heat
pub mod Overlap
pub mod Freq
pub mod Sizes
pub mod Text
