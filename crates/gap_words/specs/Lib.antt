pub mod Numbers
pub mod Forms
pub mod Names
pub mod Lines
pub mod CertLines
pub mod Refusals
