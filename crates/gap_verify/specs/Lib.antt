pub mod Sides
pub mod Differences
pub mod Lines
