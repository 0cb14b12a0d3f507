mod Lists
mod Passes
mod Agreeing
mod Views
mod Stepping
mod Seating
mod AtSeats
mod StepsOfPass
pub mod Lemmas
mod Examples
