pub mod Lines
pub mod Brackets
