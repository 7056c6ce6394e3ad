pub mod Choices
pub mod Differences
pub mod Partings
pub mod Rows
pub mod SoFar
