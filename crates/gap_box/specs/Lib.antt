pub mod Cells
pub mod Parts
pub mod Splits
pub mod Only
pub mod Narrow
