pub mod GrowLaws
pub mod ListLaws
pub mod TreeLaws
pub mod NodeLaws
pub mod ViewLaws
pub mod GrownLaws
