pub mod Text
pub mod Spelled
pub mod TextParts
pub mod Place
pub mod EntryLine
pub mod SeenLine
pub mod Reading
pub mod Rules
