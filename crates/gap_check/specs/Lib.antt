pub mod Histories
pub mod States
pub mod Accepting
pub mod Stages
pub mod Going
pub mod Telling
