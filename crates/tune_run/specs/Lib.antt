pub mod Tops
pub mod Callbacks
pub mod Report
pub mod Along
pub mod Kept
