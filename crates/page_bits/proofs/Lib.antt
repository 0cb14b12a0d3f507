mod Counting
mod Ones
mod One
mod Digits
mod Masking
mod PutMore
mod Setting
pub mod Lemmas
mod Examples
