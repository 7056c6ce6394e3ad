pub mod Stops
pub mod Copying
pub mod Pouring
pub mod Copies
pub mod Upgrading
