pub mod BlockLemmas
pub mod SetupLimits
mod Examples
