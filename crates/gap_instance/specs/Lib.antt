pub mod Instances
pub mod Limits
pub mod Neighbours
pub mod Objective
pub mod Orders
pub mod Selections
pub mod Spreads
pub mod Tables
