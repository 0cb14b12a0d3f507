pub mod Cut
pub mod Split
pub mod RowByRow
