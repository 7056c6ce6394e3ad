pub mod Choices
pub mod Fills
pub mod Places
pub mod Plain
pub mod Roundings
pub mod Starts
pub mod Steps
