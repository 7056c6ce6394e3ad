pub mod OrderLaws
pub mod SwapLaws
pub mod HeapLaws
