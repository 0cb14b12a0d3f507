mod Pages
mod Places
mod Borders
mod Starts
mod Adding
mod Walking
mod Whole
mod Tenths
mod Ends
mod Medians
mod Tiled
mod Texts
pub mod Lemmas
mod Examples
