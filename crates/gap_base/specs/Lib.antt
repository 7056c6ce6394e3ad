pub mod Sizes
pub mod Sums
pub mod Lots
pub mod Markets
pub mod Numerals
pub mod NumeralViews
pub mod Spellings
