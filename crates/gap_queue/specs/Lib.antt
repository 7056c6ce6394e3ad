pub mod Keys
pub mod Heaps
