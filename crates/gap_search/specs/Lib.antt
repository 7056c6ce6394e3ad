pub mod Boards
pub mod Steps
pub mod Kept
pub mod Barren
pub mod Stays
pub mod Whole
pub mod Driven
