-- What the crates above may cite of the proofs of this crate.
pub use Rattle.heat_report.proofs.Borders.{heat_of_rows}
pub use Rattle.heat_report.proofs.Tenths.{freqs_total}
pub use Rattle.heat_report.proofs.Tiled.{tiled_rows_lie}
