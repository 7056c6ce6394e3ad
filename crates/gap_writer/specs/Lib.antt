pub mod Writing
pub mod Pieces
pub mod HeadBytes
pub mod Filled
