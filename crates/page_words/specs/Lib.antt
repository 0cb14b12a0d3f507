pub mod Clears
pub mod Views
pub mod Clauses
pub mod Rule
pub mod Steps
pub mod Seats
pub mod Keeping
pub mod PassSteps
