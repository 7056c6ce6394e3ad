pub mod FillLaws
pub mod PlaceLaws
pub mod PlainLaws
pub mod RoundingLaws
pub mod StartLaws
pub mod StepLaws
