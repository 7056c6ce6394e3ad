pub mod Showing
pub mod Voids
pub mod Finding
pub mod Entries
pub mod Candidates
