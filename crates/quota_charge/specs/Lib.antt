pub mod Cost
pub mod Quota
pub mod Window
