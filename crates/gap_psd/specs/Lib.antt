pub mod Forms
pub mod Shifts
pub mod Factors
