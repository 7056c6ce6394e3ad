pub mod Readings
pub mod Walk
pub mod RangeLaws
pub mod Sayings
pub mod LimitsSaid
pub mod PresentSaid
pub mod JobSaid
