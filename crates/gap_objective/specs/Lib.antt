pub mod Holdings
pub mod Slopes
