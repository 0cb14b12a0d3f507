-- What the crates above may cite of the proofs of this crate.
pub use Rattle.line_text.proofs.Addresses.{address-Some, address-spelled_address, digits-hex}
pub use Rattle.line_text.proofs.Appending.{appends, keeps-append, keeps_self, keeps_through}
pub use Rattle.line_text.proofs.LeadingBack.{leading_address-read, leading_number-read, leading_parts}
pub use Rattle.line_text.proofs.LeadingLemmas.{leading_address-Some, leading_number-Some}
pub use Rattle.line_text.proofs.Numbers.{digits-decimal, number-Some, number-decimal}
pub use Rattle.line_text.proofs.Pieces.{after_prefix-Some, after_prefix-append}
pub use Rattle.line_text.proofs.Separators.{joined-parts, joined-parts_pieces, parts-joined, parts_clean, parts_first, parts_some}
