pub mod Answers
pub mod Entries
pub mod Held
pub mod Jobs
pub mod Sayings
pub mod Words
pub mod Ranges
pub mod Numbers
