mod Changes
mod Limits
mod Accepting
pub mod Lemmas
mod Examples
mod CommitExamples
