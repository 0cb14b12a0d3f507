pub mod Line
pub mod Parts
pub mod Number
pub mod Address
pub mod Leading
pub mod Laws
pub mod Appended
