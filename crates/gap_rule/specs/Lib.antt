pub mod Names
pub mod Reading
pub mod Certificates
pub mod Tasks
pub mod Rules
pub mod Steps
