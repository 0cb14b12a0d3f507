pub mod Pages
pub mod Calls
pub mod Out
pub mod Counts
pub mod Stands
pub mod SlotBySlot
pub mod Kept
