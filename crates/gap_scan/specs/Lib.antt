pub mod Steps
pub mod Scans
