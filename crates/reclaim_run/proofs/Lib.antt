pub mod Touching
pub mod Applying
pub mod Spelling
pub mod Following
pub mod Aggregating
pub mod Accepting
pub mod Accounting
mod Examples
