pub mod Reclaimed
pub mod InPlace
pub mod Stands
pub mod Along
