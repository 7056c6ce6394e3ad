pub mod Asked
pub mod Texts
pub mod Traces
pub mod Runs
pub mod Steps
pub mod Certified
