pub mod LineLaws
pub mod Sizes
pub mod BracketLaws
pub mod BestLaws
