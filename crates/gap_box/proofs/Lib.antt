pub mod CellLaws
pub mod CountLaws
pub mod PartLaws
pub mod SingleLaws
pub mod SplitLaws
pub mod NarrowLaws
