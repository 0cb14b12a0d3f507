mod Hex
mod HexPairs
mod Values
mod Pieces
mod Separators
mod FirstLine
mod FewParts
mod Plain
mod Numbers
mod Addresses
mod LeadingLemmas
mod LeadingBack
mod Examples
mod HexValues
mod Appending
pub mod Lemmas
