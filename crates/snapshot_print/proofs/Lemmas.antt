-- What the crates above may cite of the proofs of this crate.
pub use Rattle.snapshot_print.proofs.PrintedStands.{printed_monitor-stands}
