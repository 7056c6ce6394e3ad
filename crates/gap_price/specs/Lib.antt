pub mod Costs
pub mod Offers
pub mod Curves
pub mod CurveOf
