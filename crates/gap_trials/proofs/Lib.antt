pub mod PlaceLaws
pub mod TightLaws
