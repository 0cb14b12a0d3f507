pub mod Passes
pub mod Runs
pub mod RowPages
pub mod RangeRuns
