pub mod Bytes
pub mod Formats
pub mod Fields
pub mod Contexts
pub mod Certificates
