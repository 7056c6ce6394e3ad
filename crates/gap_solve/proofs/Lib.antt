pub mod FloorLaws
pub mod EndLaws
pub mod OwedLaws
pub mod SolvedLaws
pub mod CountLaws
pub mod TreeLaws
pub mod LeafLaws
pub mod EndedLaws
