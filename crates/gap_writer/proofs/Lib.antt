pub mod Spelled
pub mod Entries
pub mod Headed
pub mod ItemLaws
pub mod Pouring
pub mod Waiting
