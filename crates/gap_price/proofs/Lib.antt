pub mod OneAsset
pub mod Arithmetic
pub mod CurveLaws
pub mod OfferLaws
pub mod Tables
