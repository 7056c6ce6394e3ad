pub mod Ends
pub mod Solving
pub mod Searching
pub mod Ended
