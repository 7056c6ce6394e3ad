pub mod Links
pub mod Grown
